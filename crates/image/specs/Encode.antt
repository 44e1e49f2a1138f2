-- The word of an instruction at its own cell, and the instruction that such a word is.
use Rattle.std.specs.Option.{option_map}
use Rattle.std.specs.Prelude.{◌≡◌, ℕ, ◌+◌, ◌-◌, ◌%◌, ◌<◌, Some}
use Rattle.library.specs.Library.{Instruction, Set, Get, Sto, Own, Add, Sub, Mul, Less, Same, Move, Jump, If0, Call, Callr, Ret, Push, Pop, Out, In, Open, Find, Close, End}
use Rattle.library.specs.Fine.{Fine}
use Rattle.processor.specs.Cpu.{Parts, parts, wide}
use Rattle.processor.specs.Operations.{decoded, encoded, fields as fields_of}
use Rattle.processor.specs.declared.words.Operation.{Operation}
use Rattle.processor.specs.declared.words.Operation.TheVariants as operation

-- how far the cell k is behind the instruction's own, modulo 2^32
unfoldable pub apart : ℕ → ℕ → ℕ
apart k me = (k + 4294967296 - me) % 4294967296

-- the instruction at the cell me, as an operation of the processor
abbrev pub operation_at : ℕ → Instruction → Operation
operation_at me (Set r n) = operation.Set r n
operation_at me (Get r s n) = operation.Load r s n
operation_at me (Sto r n s) = operation.Store r n s
operation_at me (Own r k) = operation.Own r (apart k me)
operation_at me (Add r s t) = operation.Add r s t
operation_at me (Sub r s t) = operation.Sub r s t
operation_at me (Mul r s t) = operation.Mul r s t
operation_at me (Less r s t) = operation.Less r s t
operation_at me (Same r s t) = operation.Same r s t
operation_at me (Move r s) = operation.Move r s
operation_at me (Jump k) = operation.Jump (apart k me)
operation_at me (If0 r k) = operation.JumpIfZero r (apart k me)
operation_at me (Call k) = operation.Call (apart k me)
operation_at me (Callr r) = operation.CallRegister r
operation_at me Ret = operation.Return
operation_at me (Push r) = operation.Push r
operation_at me (Pop r) = operation.Pop r
operation_at me (Out r) = operation.Out r
operation_at me (In r) = operation.In r
operation_at me (Open r k global) = operation.Open r (apart k me) global
operation_at me (Find r s k) = operation.Find r s (apart k me)
operation_at me (Close r) = operation.Close r
operation_at me (End r) = operation.End r

-- its fields
abbrev pub fields : Instruction → ℕ → Parts
fields p me = fields_of (operation_at me p)

-- its word
abbrev pub encode : Instruction → ℕ → ℕ
encode p me = encoded (operation_at me p)

-- the cell that is so far behind the cell me
abbrev pub cell_behind : ℕ → ℕ → ℕ
cell_behind me k = (me + k) % wide

-- an operation of the processor at the cell me, as an instruction of the text
abbrev pub instruction_at : ℕ → Operation → Instruction
instruction_at me (operation.Set r n) = Set r n
instruction_at me (operation.Load r s n) = Get r s n
instruction_at me (operation.Store r n s) = Sto r n s
instruction_at me (operation.Own r k) = Own r (cell_behind me k)
instruction_at me (operation.Add r s t) = Add r s t
instruction_at me (operation.Sub r s t) = Sub r s t
instruction_at me (operation.Mul r s t) = Mul r s t
instruction_at me (operation.Less r s t) = Less r s t
instruction_at me (operation.Same r s t) = Same r s t
instruction_at me (operation.Move r s) = Move r s
instruction_at me (operation.Jump k) = Jump (cell_behind me k)
instruction_at me (operation.JumpIfZero r k) = If0 r (cell_behind me k)
instruction_at me (operation.Call k) = Call (cell_behind me k)
instruction_at me (operation.CallRegister r) = Callr r
instruction_at me operation.Return = Ret
instruction_at me (operation.Push r) = Push r
instruction_at me (operation.Pop r) = Pop r
instruction_at me (operation.Out r) = Out r
instruction_at me (operation.In r) = In r
instruction_at me (operation.Open r k global) = Open r (cell_behind me k) global
instruction_at me (operation.Find r s k) = Find r s (cell_behind me k)
instruction_at me (operation.Close r) = Close r
instruction_at me (operation.End r) = End r

-- the processor reads from a word the fields that were put into it, and decodes it to the same instruction
pub record Decodes : Type 0 where
  pub fields_back : (p : Instruction) (me : ℕ) → Fine p → parts (encode p me) ≡ fields p me
  pub instruction_back : (p : Instruction) (me : ℕ) → Fine p → me < wide → option_map (instruction_at me) (decoded (encode p me)) ≡ Some p
