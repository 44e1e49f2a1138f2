-- Where room is never short it doesn't matter.
use Rattle.std.specs.Prelude.{◌≡◌, ℕ, ◌+◌, ◌*◌, ◌≤◌, List, [], ◌∷◌, length, Some}
use Rattle.library.specs.Library.{Library}
use Rattle.links.specs.Links.{Room}
use Rattle.meaning.specs.State.{State, Next, goes, ended, lost, wrong}
use Rattle.meaning.specs.Runs.{begins, after}

-- what was shown
abbrev pub shown : Next → List ℕ
shown (goes s) = s.outs
shown (ended n s) = s.outs
shown (lost s) = s.outs
shown (wrong s) = s.outs

-- all cells of a text
abbrev pub cells_of : List Library → ℕ
cells_of [] = 0
cells_of (l ∷ ls) = length l.cells + cells_of ls

-- the words that are taken
abbrev pub used_by : Next → ℕ
used_by (goes s) = s.links.used
used_by (ended n s) = s.links.used
used_by (lost s) = s.links.used
used_by (wrong s) = s.links.used

-- there is room for the whole text once more
abbrev pub Plenty : List Library → Room → State → ℕ → Type 0
Plenty ls m s n = used_by (after ls m s n) + (length ls + (cells_of ls + m.gap * length ls)) ≤ m.words

-- how a program stands
pub data Fate : Type 0 where
  goes_on : Fate
  ends_with : ℕ → Fate
  is_lost : Fate
  no_meaning : Fate

-- whether it goes on, or what it came to
abbrev pub fate : Next → Fate
fate (goes s) = goes_on
fate (ended n s) = ends_with n
fate (lost s) = is_lost
fate (wrong s) = no_meaning

-- where room is never short, a program shows the same in any two, step by step
abbrev pub SameShown : Type 0
SameShown = (ls : List Library) (m k : Room) (ins : List ℕ) (s t : State) (n : ℕ) → begins ls m ins ≡ Some s → begins ls k ins ≡ Some t → Plenty ls m s n → Plenty ls k t n → shown (after ls m s n) ≡ shown (after ls k t n)

-- and comes to the same end
abbrev pub SameEnd : Type 0
SameEnd = (ls : List Library) (m k : Room) (ins : List ℕ) (s t : State) (n : ℕ) → begins ls m ins ≡ Some s → begins ls k ins ≡ Some t → Plenty ls m s n → Plenty ls k t n → fate (after ls m s n) ≡ fate (after ls k t n)
