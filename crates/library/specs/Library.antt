-- A library: its cells, what it defines, what it needs, what is called first and last.
use Rattle.std.specs.Prelude.{ℕ, ◌+◌, Bool, List, [], ◌∷◌, ◌++◌, length, None, Option, Some, cond, slice_get}
use Rattle.base.specs.Choices.{on_some}
use Rattle.base.specs.Names.{Name, same}

-- a name that is asked for or defined, with a version; asked for, the version - is any
pub record Symbol : Type 0 where
  pub name : Name
  pub version : Name

-- a symbol that a library defines, and its cell; inner: for this library alone
pub record Definition : Type 0 where
  pub symbol : Symbol
  pub cell : ℕ
  pub inner : Bool

-- operands in the order of the text: registers 0 to 7, numbers below 2^32, cells of the same library; of Open: whether the group is global
pub data Instruction : Type 0 where
  Set : ℕ → ℕ → Instruction
  Get : ℕ → ℕ → ℕ → Instruction
  Sto : ℕ → ℕ → ℕ → Instruction
  Own : ℕ → ℕ → Instruction
  Add : ℕ → ℕ → ℕ → Instruction
  Sub : ℕ → ℕ → ℕ → Instruction
  Mul : ℕ → ℕ → ℕ → Instruction
  Less : ℕ → ℕ → ℕ → Instruction
  Same : ℕ → ℕ → ℕ → Instruction
  Move : ℕ → ℕ → Instruction
  Jump : ℕ → Instruction
  If0 : ℕ → ℕ → Instruction
  Call : ℕ → Instruction
  Callr : ℕ → Instruction
  Ret : Instruction
  Push : ℕ → Instruction
  Pop : ℕ → Instruction
  Out : ℕ → Instruction
  In : ℕ → Instruction
  Open : ℕ → ℕ → Bool → Instruction
  Find : ℕ → ℕ → ℕ → Instruction
  Close : ℕ → Instruction
  End : ℕ → Instruction

-- a cell as its line says it
pub data Cell : Type 0 where
  number : ℕ → Cell
  -- the place so many cells behind the symbol's definition; whether it must be there
  ref : Symbol → ℕ → Bool → Cell
  -- the place of an own cell
  at : ℕ → Cell
  -- what calls go through
  slot : Symbol → Cell
  -- a name for open and find
  named : Name → Cell
  instruction : Instruction → Cell

-- a library: its name, whether it looks in itself first, the libraries that it needs, and its parts in the order of lines
pub record Library : Type 0 where
  pub name : Name
  pub inward : Bool
  pub needs : List Name
  pub defs : List Definition
  pub inits : List ℕ
  pub finis : List ℕ
  pub cells : List Cell

-- the library of a name
abbrev pub find_library : List Library → Name → Option Library
find_library [] x = None
find_library (l ∷ ls) x = cond (same l.name x) (Some l) (find_library ls x)

-- the version that is asked for where any will do
abbrev pub any_version : Name
any_version = (45 ∷ [])

-- the name that the program begins with
abbrev pub main_name : Name
main_name = (109 ∷ 97 ∷ 105 ∷ 110 ∷ [])

-- all cells of a text, library after library
abbrev pub all_cells : List Library → List Cell
all_cells [] = []
all_cells (l ∷ ls) = l.cells ++ all_cells ls

-- the name that a cell holds
abbrev pub label_in : Cell → Option Name
label_in (number n) = None
label_in (ref s k b) = None
label_in (at k) = None
label_in (slot s) = None
label_in (named x) = Some x
label_in (instruction o) = None

-- the name in the cell of this number, counted over all cells of a text
abbrev pub label_at : List Library → ℕ → Option Name
label_at ls w = on_some (slice_get (all_cells ls) w) label_in

-- how many cells stand before the library that a name finds
abbrev pub cells_before : List Library → Name → ℕ
cells_before [] x = 0
cells_before (l ∷ ls) x = cond (same l.name x) 0 (length l.cells + cells_before ls x)
