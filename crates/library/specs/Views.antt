-- What the types of the code stand for.
use Rattle.std.specs.Prelude.{ℕ}
use Rattle.base.specs.Names.{Name}
use Rattle.library.specs.Library as library
use Rattle.library.specs.declared.types.Register.{Register}
use Rattle.library.specs.declared.types.Register.TheVariants.{R0, R1, R2, R3, R4, R5, R6, R7}
use Rattle.library.specs.declared.types.CellNo.{CellNo}
use Rattle.library.specs.declared.types.Instruction.{Instruction}
use Rattle.library.specs.declared.types.Instruction.TheVariants as code
use Rattle.library.specs.declared.types.Symbol.{Symbol}
use Rattle.library.specs.declared.types.Definition.{Definition}
use Rattle.library.specs.declared.types.Cell.{Cell}
use Rattle.library.specs.declared.types.Cell.TheVariants as cells

-- a register's number
abbrev pub reg : Register → ℕ
reg R0 = 0
reg R1 = 1
reg R2 = 2
reg R3 = 3
reg R4 = 4
reg R5 = 5
reg R6 = 6
reg R7 = 7

-- a cell's number
abbrev pub cell_no : CellNo → ℕ
cell_no k = k.0

-- an instruction
abbrev pub instruction_of : Instruction → library.Instruction
instruction_of (code.Set a b) = library.Set (reg a) b
instruction_of (code.Get a b c) = library.Get (reg a) (reg b) c
instruction_of (code.Sto a b c) = library.Sto (reg a) b (reg c)
instruction_of (code.Own a b) = library.Own (reg a) (cell_no b)
instruction_of (code.Add a b c) = library.Add (reg a) (reg b) (reg c)
instruction_of (code.Sub a b c) = library.Sub (reg a) (reg b) (reg c)
instruction_of (code.Mul a b c) = library.Mul (reg a) (reg b) (reg c)
instruction_of (code.Less a b c) = library.Less (reg a) (reg b) (reg c)
instruction_of (code.Same a b c) = library.Same (reg a) (reg b) (reg c)
instruction_of (code.Move a b) = library.Move (reg a) (reg b)
instruction_of (code.Jump a) = library.Jump (cell_no a)
instruction_of (code.If0 a b) = library.If0 (reg a) (cell_no b)
instruction_of (code.Call a) = library.Call (cell_no a)
instruction_of (code.Callr a) = library.Callr (reg a)
instruction_of code.Ret = library.Ret
instruction_of (code.Push a) = library.Push (reg a)
instruction_of (code.Pop a) = library.Pop (reg a)
instruction_of (code.Out a) = library.Out (reg a)
instruction_of (code.In a) = library.In (reg a)
instruction_of (code.Open a b c) = library.Open (reg a) (cell_no b) c
instruction_of (code.Find a b c) = library.Find (reg a) (reg b) (cell_no c)
instruction_of (code.Close a) = library.Close (reg a)
instruction_of (code.End a) = library.End (reg a)

-- a symbol; f: the bytes of a name
abbrev pub symbol_of : {N : Type 0} → (N → Name) → Symbol N → library.Symbol
symbol_of f s = record { name = f s.name; version = f s.version }

-- a definition
abbrev pub definition_of : {N : Type 0} → (N → Name) → Definition N → library.Definition
definition_of f d = record { symbol = symbol_of f d.symbol; cell = cell_no d.cell; inner = d.inner }

-- a cell
abbrev pub cell_of : {N : Type 0} → (N → Name) → Cell N → library.Cell
cell_of f (cells.Number n) = library.number n
cell_of f (cells.Ref s n b) = library.ref (symbol_of f s) n b
cell_of f (cells.At k) = library.at (cell_no k)
cell_of f (cells.Slot s) = library.slot (symbol_of f s)
cell_of f (cells.Name x) = library.named (f x)
cell_of f (cells.Code o) = library.instruction (instruction_of o)
