-- A visit as the definitions have it, and the room for a walk.
use Rattle.std.specs.Prelude.{ℕ, ◌/◌, min, length}
use Rattle.needs.specs.declared.walk.Visit.{Visit}
use Rattle.needs.specs.declared.walk.WalkWords.{WalkWords}
use Rattle.needs.specs.Walks.{Entered}

-- a library that was entered, and how many of its needs were looked at
abbrev pub visit_of : Visit → Entered
visit_of v = record { library = v.library.0; looked = v.looked }

-- how many libraries there is room for
abbrev pub walk_room : WalkWords → ℕ
walk_room w = min (length w.entered.now / 2) (min (min (length w.seen.now) (length w.marks.now)) (length w.left.now))
