-- The rows that are written for instructions and cells.
use Rattle.std.specs.Prelude.{ℕ, ◌+◌, ◌<◌, Bool, true, false, List, [], ◌∷◌}
use Rattle.text.specs.declared.reader.Span.{Span}
use Rattle.library.specs.Library as library
use Rattle.library.specs.Views.{instruction_of, cell_no}
use Rattle.library.specs.declared.types.Symbol.{Symbol}
use Rattle.library.specs.declared.types.Cell.{Cell}
use Rattle.library.specs.declared.types.Cell.TheVariants as cells

-- 1 for true
abbrev pub bit : Bool → ℕ
bit true = 1
bit false = 0

-- a row of four words
abbrev pub row4 : ℕ → ℕ → ℕ → ℕ → List ℕ
row4 k a b c = k ∷ a ∷ b ∷ c ∷ 0 ∷ 0 ∷ []

-- a row with a symbol
abbrev pub symbol_row : ℕ → Symbol Span → ℕ → List ℕ
symbol_row k s n = k ∷ s.name.start ∷ s.name.end ∷ s.version.start ∷ s.version.end ∷ n ∷ []

-- the row of an instruction
abbrev pub instruction_row : library.Instruction → List ℕ
instruction_row (library.Set a b) = row4 1 a b 0
instruction_row (library.Get a b c) = row4 2 a b c
instruction_row (library.Sto a b c) = row4 3 a b c
instruction_row (library.Own a b) = row4 4 a b 0
instruction_row (library.Add a b c) = row4 5 a b c
instruction_row (library.Sub a b c) = row4 6 a b c
instruction_row (library.Mul a b c) = row4 7 a b c
instruction_row (library.Less a b c) = row4 8 a b c
instruction_row (library.Same a b c) = row4 9 a b c
instruction_row (library.Move a b) = row4 10 a b 0
instruction_row (library.Jump a) = row4 11 a 0 0
instruction_row (library.If0 a b) = row4 12 a b 0
instruction_row (library.Call a) = row4 13 a 0 0
instruction_row (library.Callr a) = row4 14 a 0 0
instruction_row library.Ret = row4 15 0 0 0
instruction_row (library.Push a) = row4 16 a 0 0
instruction_row (library.Pop a) = row4 17 a 0 0
instruction_row (library.Out a) = row4 18 a 0 0
instruction_row (library.In a) = row4 19 a 0 0
instruction_row (library.Open a b c) = row4 20 a b (bit c)
instruction_row (library.Find a b c) = row4 21 a b c
instruction_row (library.Close a) = row4 22 a 0 0
instruction_row (library.End a) = row4 23 a 0 0

-- the row of a cell
abbrev pub cell_row : Cell Span → List ℕ
cell_row (cells.Number n) = row4 24 n 0 0
cell_row (cells.Ref s n b) = symbol_row (25 + bit b) s n
cell_row (cells.At k) = row4 27 (cell_no k) 0 0
cell_row (cells.Slot s) = symbol_row 28 s 0
cell_row (cells.Name x) = row4 29 x.start x.end 0
cell_row (cells.Code o) = instruction_row (instruction_of o)

-- numbers and cells as the code's types hold them
abbrev pub SmallInstruction : library.Instruction → Type 0
SmallInstruction (library.Set a b) = b < 4294967296
SmallInstruction (library.Get a b c) = c < 4294967296
SmallInstruction (library.Sto a b c) = b < 4294967296
SmallInstruction (library.Own a b) = b < 65536
SmallInstruction (library.Add a b c) = Unit {0}
SmallInstruction (library.Sub a b c) = Unit {0}
SmallInstruction (library.Mul a b c) = Unit {0}
SmallInstruction (library.Less a b c) = Unit {0}
SmallInstruction (library.Same a b c) = Unit {0}
SmallInstruction (library.Move a b) = Unit {0}
SmallInstruction (library.Jump a) = a < 65536
SmallInstruction (library.If0 a b) = b < 65536
SmallInstruction (library.Call a) = a < 65536
SmallInstruction (library.Callr a) = Unit {0}
SmallInstruction library.Ret = Unit {0}
SmallInstruction (library.Push a) = Unit {0}
SmallInstruction (library.Pop a) = Unit {0}
SmallInstruction (library.Out a) = Unit {0}
SmallInstruction (library.In a) = Unit {0}
SmallInstruction (library.Open a b c) = b < 65536
SmallInstruction (library.Find a b c) = c < 65536
SmallInstruction (library.Close a) = Unit {0}
SmallInstruction (library.End a) = Unit {0}

-- the same of a cell
abbrev pub Small : Cell Span → Type 0
Small (cells.Number n) = n < 4294967296
Small (cells.Ref s n b) = n < 4294967296
Small (cells.At k) = cell_no k < 65536
Small (cells.Slot s) = Unit {0}
Small (cells.Name x) = Unit {0}
Small (cells.Code o) = SmallInstruction (instruction_of o)
