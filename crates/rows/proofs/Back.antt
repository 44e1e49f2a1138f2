-- What is written is read back.
use Rattle.std.proofs.Common.{◌≡◌, ℕ, ◌%◌, ◌<◌, Bool, true, false, eqb, List, refl, arith}
use mir.Val.{bool_byte}
use Rattle.text.specs.Readers.{bytes}
use Rattle.text.specs.declared.reader.Span.{Span}
use Rattle.library.specs.Library as library
use Rattle.library.specs.Views.{reg, instruction_of, cell_of}
use Rattle.library.specs.declared.types.Register.{Register}
use Rattle.library.specs.declared.types.Register.TheVariants.{R0, R1, R2, R3, R4, R5, R6, R7}
use Rattle.library.specs.declared.types.Instruction.{Instruction}
use Rattle.library.specs.declared.types.Instruction.TheVariants as code
use Rattle.library.specs.declared.types.Cell.{Cell}
use Rattle.library.specs.declared.types.Cell.TheVariants as cells
use Rattle.rows.specs.Rows.{cell_at}
use Rattle.rows.specs.Writes.{instruction_row, cell_row, Small, SmallInstruction}

num : (n : ℕ) → n < 4294967296 → n % 4294967296 ≡ n
num n h = omega arith

cel : (n : ℕ) → n < 65536 → n % 65536 ≡ n
cel n h = omega arith

eight : (r : Register) → reg r % 8 ≡ reg r
eight R0 = refl
eight R1 = refl
eight R2 = refl
eight R3 = refl
eight R4 = refl
eight R5 = refl
eight R6 = refl
eight R7 = refl

instruction_back : (t : List ℕ) (o : Instruction) → SmallInstruction (instruction_of o) → cell_at t (instruction_row (instruction_of o)) ≡ library.instruction (instruction_of o)
unfolding cell_at
instruction_back t (code.Set a b) h = let p = eight a in let q = num b h in rw (p, q) refl
instruction_back t (code.Get a b c) h = let p = eight a in let q = eight b in let r = num c h in rw (p, q, r) refl
instruction_back t (code.Sto a b c) h = let p = eight a in let q = num b h in let r = eight c in rw (p, q, r) refl
instruction_back t (code.Own a b) h = let p = eight a in let q = cel b.0 h in rw (p, q) refl
instruction_back t (code.Add a b c) h = let p = eight a in let q = eight b in let r = eight c in rw (p, q, r) refl
instruction_back t (code.Sub a b c) h = let p = eight a in let q = eight b in let r = eight c in rw (p, q, r) refl
instruction_back t (code.Mul a b c) h = let p = eight a in let q = eight b in let r = eight c in rw (p, q, r) refl
instruction_back t (code.Less a b c) h = let p = eight a in let q = eight b in let r = eight c in rw (p, q, r) refl
instruction_back t (code.Same a b c) h = let p = eight a in let q = eight b in let r = eight c in rw (p, q, r) refl
instruction_back t (code.Move a b) h = let p = eight a in let q = eight b in rw (p, q) refl
instruction_back t (code.Jump a) h = let p = cel a.0 h in rw (p) refl
instruction_back t (code.If0 a b) h = let p = eight a in let q = cel b.0 h in rw (p, q) refl
instruction_back t (code.Call a) h = let p = cel a.0 h in rw (p) refl
instruction_back t (code.Callr a) h = let p = eight a in rw (p) refl
instruction_back t code.Ret h = refl
instruction_back t (code.Push a) h = let p = eight a in rw (p) refl
instruction_back t (code.Pop a) h = let p = eight a in rw (p) refl
instruction_back t (code.Out a) h = let p = eight a in rw (p) refl
instruction_back t (code.In a) h = let p = eight a in rw (p) refl
instruction_back t (code.Open a b true) h = let p = eight a in let q = cel b.0 h in rw (p, q) refl
instruction_back t (code.Open a b false) h = let p = eight a in let q = cel b.0 h in rw (p, q) refl
instruction_back t (code.Find a b c) h = let p = eight a in let q = eight b in let r = cel c.0 h in rw (p, q, r) refl
instruction_back t (code.Close a) h = let p = eight a in rw (p) refl
instruction_back t (code.End a) h = let p = eight a in rw (p) refl

pub cell_back : (t : List ℕ) (c : Cell Span) → Small c → cell_at t (cell_row c) ≡ cell_of (bytes t) c
unfolding cell_at
cell_back t (cells.Number n) h = let p = num n h in rw p refl
cell_back t (cells.Ref s n true) h = let p = num n h in rw p refl
cell_back t (cells.Ref s n false) h = let p = num n h in rw p refl
cell_back t (cells.At k) h = let p = cel k.0 h in rw p refl
cell_back t (cells.Slot s) h = refl
cell_back t (cells.Name x) h = refl
cell_back t (cells.Code o) h = instruction_back t o h

pub bit_back : (b : Bool) → eqb (bool_byte b) 1 ≡ b
bit_back true = refl
bit_back false = refl
