-- What rows of words stand for, in a text: any words stand for something.
use Rattle.std.specs.Prelude.{ℕ, ◌%◌, true, false, List, ◌==◌, slice_index, None, Option, Some, cond}
use Rattle.std.specs.List.{between}
use Rattle.base.specs.Choices.{opt}
use Rattle.base.specs.Names.{Name}
use Rattle.library.specs.Library.{Symbol, Definition, Cell, number, ref, at, slot, named, instruction, Instruction}
use Rattle.library.specs.Library as library

-- a name, by its bounds in the text t
abbrev pub name_at : List ℕ → List ℕ → Name
name_at t r = between (slice_index r 0) (slice_index r 1) t

-- a cell's number
abbrev pub number_at : List ℕ → ℕ
number_at r = slice_index r 0 % 65536

-- a symbol, by the bounds of its name and its version
abbrev pub symbol_at : List ℕ → ℕ → ℕ → ℕ → ℕ → Symbol
symbol_at t a b c d = record { name = between a b t; version = between c d t }

-- a definition: a symbol, a cell, and 1 where it is inner
abbrev pub definition_at : List ℕ → List ℕ → Definition
definition_at t r = record { symbol = symbol_at t (slice_index r 0) (slice_index r 1) (slice_index r 2) (slice_index r 3); cell = slice_index r 4 % 65536; inner = (slice_index r 5 == 1) }

-- an instruction, by its number, 1 to 23, and its operands
abbrev pub instruction_at : ℕ → ℕ → ℕ → ℕ → Option Instruction
instruction_at k a b c =
    cond (k == 1) (Some (library.Set (a % 8) (b % 4294967296)))
    (cond (k == 2) (Some (library.Get (a % 8) (b % 8) (c % 4294967296)))
    (cond (k == 3) (Some (library.Sto (a % 8) (b % 4294967296) (c % 8)))
    (cond (k == 4) (Some (library.Own (a % 8) (b % 65536)))
    (cond (k == 5) (Some (library.Add (a % 8) (b % 8) (c % 8)))
    (cond (k == 6) (Some (library.Sub (a % 8) (b % 8) (c % 8)))
    (cond (k == 7) (Some (library.Mul (a % 8) (b % 8) (c % 8)))
    (cond (k == 8) (Some (library.Less (a % 8) (b % 8) (c % 8)))
    (cond (k == 9) (Some (library.Same (a % 8) (b % 8) (c % 8)))
    (cond (k == 10) (Some (library.Move (a % 8) (b % 8)))
    (cond (k == 11) (Some (library.Jump (a % 65536)))
    (cond (k == 12) (Some (library.If0 (a % 8) (b % 65536)))
    (cond (k == 13) (Some (library.Call (a % 65536)))
    (cond (k == 14) (Some (library.Callr (a % 8)))
    (cond (k == 15) (Some library.Ret)
    (cond (k == 16) (Some (library.Push (a % 8)))
    (cond (k == 17) (Some (library.Pop (a % 8)))
    (cond (k == 18) (Some (library.Out (a % 8)))
    (cond (k == 19) (Some (library.In (a % 8)))
    (cond (k == 20) (Some (library.Open (a % 8) (b % 65536) (c == 1)))
    (cond (k == 21) (Some (library.Find (a % 8) (b % 8) (c % 65536)))
    (cond (k == 22) (Some (library.Close (a % 8)))
    (cond (k == 23) (Some (library.End (a % 8)))
    None))))))))))))))))))))))

-- a cell that is no instruction, by its number, 24 to 29, and the words behind it
abbrev pub plain_at : List ℕ → ℕ → ℕ → ℕ → ℕ → ℕ → ℕ → Cell
plain_at t k a b c d e =
    cond (k == 24) (number (a % 4294967296))
    (cond (k == 25) (ref (symbol_at t a b c d) (e % 4294967296) false)
    (cond (k == 26) (ref (symbol_at t a b c d) (e % 4294967296) true)
    (cond (k == 27) (at (a % 65536))
    (cond (k == 28) (slot (symbol_at t a b c d))
    (named (between a b t))))))

-- a cell, by its number and the words behind it
unfoldable pub cell_at : List ℕ → List ℕ → Cell
cell_at t r = opt (instruction_at (slice_index r 0) (slice_index r 1) (slice_index r 2) (slice_index r 3)) (plain_at t (slice_index r 0) (slice_index r 1) (slice_index r 2) (slice_index r 3) (slice_index r 4) (slice_index r 5)) (λ o. instruction o)
