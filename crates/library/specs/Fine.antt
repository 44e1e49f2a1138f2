-- Libraries whose registers, numbers and cells are in range.
use Rattle.std.specs.List.{AllByRecursion}
use Rattle.std.specs.Prelude.{◌≡◌, ℕ, ◌<◌, ◌≤◌, List, length, Some}
use Rattle.library.specs.Library.{Instruction, Set, Get, Sto, Own, Add, Sub, Mul, Less, Same, Move, Jump, If0, Call, Callr, Ret, Push, Pop, Out, In, Open, Find, Close, End, Cell, number, ref, at, slot, named, instruction, Library}
use Rattle.library.specs.Text.{reach, reads}

-- registers and numbers as a text has them
abbrev pub Fine : Instruction → Type 0
Fine (Set a b) = (a < 8) × (b < 4294967296)
Fine (Get a b c) = (a < 8) × (b < 8) × (c < 4294967296)
Fine (Sto a b c) = (a < 8) × (b < 4294967296) × (c < 8)
Fine (Own a b) = (a < 8) × (b < 65536)
Fine (Add a b c) = (a < 8) × (b < 8) × (c < 8)
Fine (Sub a b c) = (a < 8) × (b < 8) × (c < 8)
Fine (Mul a b c) = (a < 8) × (b < 8) × (c < 8)
Fine (Less a b c) = (a < 8) × (b < 8) × (c < 8)
Fine (Same a b c) = (a < 8) × (b < 8) × (c < 8)
Fine (Move a b) = (a < 8) × (b < 8)
Fine (Jump a) = a < 65536
Fine (If0 a b) = (a < 8) × (b < 65536)
Fine (Call a) = a < 65536
Fine (Callr a) = a < 8
Fine Ret = Unit
Fine (Push a) = a < 8
Fine (Pop a) = a < 8
Fine (Out a) = a < 8
Fine (In a) = a < 8
Fine (Open a b c) = (a < 8) × (b < 65536)
Fine (Find a b c) = (a < 8) × (b < 8) × (c < 65536)
Fine (Close a) = a < 8
Fine (End a) = a < 8

-- the cells that an instruction names are there, where there are z
abbrev pub InCells : Instruction → ℕ → Type 0
InCells o z = reach o ≤ z

-- a cell of a library that has z cells
abbrev pub CellFine : ℕ → Cell → Type 0
CellFine z (number n) = n < 4294967296
CellFine z (ref y n b) = n < 4294967296
CellFine z (at j) = j < z
CellFine z (slot y) = Unit
CellFine z (named x) = Unit
CellFine z (instruction o) = Fine o × InCells o z

-- the cells, numbers and registers of a library
pub record LibraryFine (l : Library) : Type 0 where
  pub cells : AllByRecursion (CellFine (length l.cells)) l.cells
  pub small : length l.cells < 65536
  pub defs : AllByRecursion (λ d. d.cell < length l.cells) l.defs
  pub inits : AllByRecursion (λ j. j < length l.cells) l.inits
  pub finis : AllByRecursion (λ j. j < length l.cells) l.finis

-- all that a text gives is in range
abbrev pub ReadsFine : Type 0
ReadsFine = (t : List ℕ) (ls : List Library) → reads t ≡ Some ls → AllByRecursion LibraryFine ls
