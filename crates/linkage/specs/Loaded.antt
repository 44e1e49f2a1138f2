-- The modules of the tables, by their libraries.
use Rattle.std.specs.Prelude.{ℕ, Bool, false, List, length, ◌<◌, ◌==◌, slice_index}
use Rattle.std.specs.List.{AllByRecursion}
use Rattle.base.specs.Choices.{opt}
use Rattle.library.specs.Library.{Library}
use Rattle.lent.specs.Tables.{rows_in}
use Rattle.linkage.specs.Tables.{live_in}
use Rattle.linkage.specs.declared.tables.Tables.{Tables}

-- whether module i is still there and its library is k
abbrev pub serves : Tables → ℕ → ℕ → Bool
serves t k i = opt (live_in t i) false (λ m. m.load.library.0 == k)

-- the library of each module is one of these
abbrev pub Known : List Library → Tables → Type 0
Known ls t = AllByRecursion (λ r. slice_index r 0 < length ls) (rows_in 3 t.modules)
