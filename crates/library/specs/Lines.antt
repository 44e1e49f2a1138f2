-- A line of a text: the words behind its first, and what it says of the library that it stands in.
use Rattle.std.specs.Prelude.{ℕ, Bool, true, false, List, [], ◌∷◌, Ok, Err, Result, None, Option, Some, cond}
use Rattle.base.specs.Choices.{opt, on_ok}
use Rattle.base.specs.Names.{Name, same}
use Rattle.text.specs.Words.{below}
use Rattle.library.specs.Library.{Symbol, Definition, Cell, number, ref, at, slot, named, instruction, Instruction}
use Rattle.library.specs.Library as library
use Rattle.library.specs.Keywords.{k_inward, k_needs, k_def, k_init, k_fini, k_word, k_ref, k_at, k_slot, k_name, k_all, k_inner, k_must, k_may, k_set, k_get, k_sto, k_own, k_add, k_sub, k_mul, k_less, k_same, k_move, k_jump, k_if0, k_call, k_callr, k_ret, k_push, k_pop, k_out, k_in, k_open, k_find, k_close, k_end}
use Rattle.library.specs.declared.faults.LineFault.{LineFault}
use Rattle.library.specs.declared.faults.LineFault.TheVariants.{UnknownKeyword, MissingWord, SurplusWord, NotRegister, NotCell, NotNumber, NotChoice}
use Rattle.library.specs.declared.types.Arithmetic.{Arithmetic}
use Rattle.library.specs.declared.types.Arithmetic.TheVariants as arithmetic
use Rattle.library.specs.declared.types.Unary.{Unary}
use Rattle.library.specs.declared.types.Unary.TheVariants as unary
use Rattle.library.specs.declared.types.Opcode.{Opcode}
use Rattle.library.specs.declared.types.Opcode.TheVariants as opcode

-- what is read, or what is wrong
abbrev pub Read : Type 0 → Type 0
Read A = Result A LineFault

-- a number below m, else the fault e
abbrev pub number_below : LineFault → ℕ → Name → Read ℕ
number_below e m w = opt (below m w) (Err e) Ok

-- a register, 0 to 7
abbrev pub a_register : Name → Read ℕ
a_register w = number_below NotRegister 8 w

-- a cell's number
abbrev pub a_cell : Name → Read ℕ
a_cell w = number_below NotCell 65536 w

-- a number
abbrev pub a_number : Name → Read ℕ
a_number w = number_below NotNumber 4294967296 w

-- any word
abbrev pub a_word : Name → Read Name
a_word w = Ok w

-- true for the word y, false for the word n
abbrev pub either : Name → Name → Name → Read Bool
either y n w = cond (same w y) (Ok true) (cond (same w n) (Ok false) (Err NotChoice))

-- the next word as f reads it, and the words behind it
abbrev pub takes : {A : Type 0} → (Name → Read A) → List Name → Read (A × List Name)
takes f [] = Err MissingWord
takes f (w ∷ ws) = on_ok (f w) (λ a. Ok (a, ws))

-- the next word is read by f, the rest by g
abbrev pub then : {A C : Type 0} → (Name → Read A) → List Name → (A → List Name → Read C) → Read C
then f ws g = on_ok (takes f ws) (λ p. g p.0 p.1)

-- the line ends here
abbrev pub end_line : {C : Type 0} → C → List Name → Read C
end_line c [] = Ok c
end_line c (w ∷ ws) = Err SurplusWord

-- reads what stands first in a line, and gives what is left of it
abbrev pub Reads : Type 0 → Type 0
Reads A = List Name → Read (A × List Name)

-- two operands, one behind the other
abbrev pub both : {A B : Type 0} → Reads A → Reads B → Reads (A × B)
both f g ws = on_ok (f ws) (λ p. on_ok (g p.1) (λ q. Ok ((p.0, q.0), q.1)))

-- three operands
abbrev pub three : {A B D : Type 0} → Reads A → Reads B → Reads D → Reads (A × B × D)
three f g h ws = on_ok (f ws) (λ p. on_ok (g p.1) (λ q. on_ok (h q.1) (λ r. Ok ((p.0, q.0, r.0), r.1))))

-- a line that has these operands and nothing else
abbrev pub whole : {A : Type 0} → Reads A → List Name → Read A
whole f ws = on_ok (f ws) (λ p. end_line p.0 p.1)

-- a line with an operand
abbrev pub one_operand : {A C : Type 0} → Reads A → (A → C) → List Name → Read C
one_operand f make ws = on_ok (whole f ws) (λ a. Ok (make a))

-- a line with two operands
abbrev pub two_operands : {A B C : Type 0} → Reads A → Reads B → (A → B → C) → List Name → Read C
two_operands f g make ws = one_operand (both f g) (λ p. make p.0 p.1) ws

-- a line with three operands
abbrev pub three_operands : {A B D C : Type 0} → Reads A → Reads B → Reads D → (A → B → D → C) → List Name → Read C
three_operands f g h make ws = one_operand (three f g h) (λ p. make p.0 p.1 p.2) ws

-- an instruction with three registers
abbrev pub ternary : Arithmetic → ℕ → ℕ → ℕ → Instruction
ternary arithmetic.Add = library.Add
ternary arithmetic.Sub = library.Sub
ternary arithmetic.Mul = library.Mul
ternary arithmetic.Less = library.Less
ternary arithmetic.Same = library.Same

-- an instruction with one register
abbrev pub unary_of : Unary → ℕ → Instruction
unary_of unary.Callr = library.Callr
unary_of unary.Push = library.Push
unary_of unary.Pop = library.Pop
unary_of unary.Out = library.Out
unary_of unary.In = library.In
unary_of unary.Close = library.Close
unary_of unary.End = library.End

-- the operands of an instruction
abbrev pub operands : Opcode → List Name → Read Instruction
operands opcode.Set = two_operands (takes a_register) (takes a_number) library.Set
operands opcode.Get = three_operands (takes a_register) (takes a_register) (takes a_number) library.Get
operands opcode.Sto = three_operands (takes a_register) (takes a_number) (takes a_register) library.Sto
operands opcode.Own = two_operands (takes a_register) (takes a_cell) library.Own
operands (opcode.Arithmetic o) = three_operands (takes a_register) (takes a_register) (takes a_register) (ternary o)
operands opcode.Move = two_operands (takes a_register) (takes a_register) library.Move
operands opcode.Jump = one_operand (takes a_cell) library.Jump
operands opcode.If0 = two_operands (takes a_register) (takes a_cell) library.If0
operands opcode.Call = one_operand (takes a_cell) library.Call
operands opcode.Ret = end_line library.Ret
operands (opcode.Unary o) = one_operand (takes a_register) (unary_of o)
operands opcode.Open = three_operands (takes a_register) (takes a_cell) (takes (either k_all k_inner)) library.Open
operands opcode.Find = three_operands (takes a_register) (takes a_register) (takes a_cell) library.Find

-- the entry of a word in a table of keywords
abbrev pub keyed : {X : Type 0} → List (Name × X) → Name → Option X
keyed [] w = None
keyed ((k, x) ∷ xs) w = cond (same w k) (Some x) (keyed xs w)

-- the keywords of instructions: on values and memory, on where it goes on and what was pushed, on what is shown, read, opened and ended
abbrev pub opcodes : List (Name × Opcode)
opcodes =
    (k_set, opcode.Set) ∷ (k_get, opcode.Get) ∷ (k_sto, opcode.Sto) ∷ (k_own, opcode.Own)
    ∷ (k_add, opcode.Arithmetic arithmetic.Add) ∷ (k_sub, opcode.Arithmetic arithmetic.Sub) ∷ (k_mul, opcode.Arithmetic arithmetic.Mul) ∷ (k_less, opcode.Arithmetic arithmetic.Less) ∷ (k_same, opcode.Arithmetic arithmetic.Same) ∷ (k_move, opcode.Move)
    ∷ (k_jump, opcode.Jump) ∷ (k_if0, opcode.If0) ∷ (k_call, opcode.Call) ∷ (k_callr, opcode.Unary unary.Callr) ∷ (k_ret, opcode.Ret) ∷ (k_push, opcode.Unary unary.Push) ∷ (k_pop, opcode.Unary unary.Pop)
    ∷ (k_out, opcode.Unary unary.Out) ∷ (k_in, opcode.Unary unary.In) ∷ (k_open, opcode.Open) ∷ (k_find, opcode.Find) ∷ (k_close, opcode.Unary unary.Close) ∷ (k_end, opcode.Unary unary.End) ∷ []

-- the instruction whose keyword a word is
abbrev pub opcode_of : Name → Option Opcode
opcode_of = keyed opcodes

-- an instruction, by its keyword and the words behind it
abbrev pub instruction_line : Name → List Name → Read Instruction
instruction_line w ws = opt (opcode_of w) (Err UnknownKeyword) (λ k. operands k ws)

-- a name and a version
abbrev pub a_symbol : Reads Symbol
a_symbol ws = on_ok (both (takes a_word) (takes a_word) ws) (λ p. Ok (record { name = p.0.0; version = p.0.1 }, p.1))

-- a line that says a cell
abbrev pub cell_line : Name → List Name → Read Cell
cell_line w ws =
    cond (same w k_word) (one_operand (takes a_number) number ws)
    (cond (same w k_ref) (three_operands a_symbol (takes a_number) (takes (either k_must k_may)) ref ws)
    (cond (same w k_at) (one_operand (takes a_cell) at ws)
    (cond (same w k_slot) (one_operand a_symbol slot ws)
    (cond (same w k_name) (one_operand (takes a_word) named ws)
    (on_ok (instruction_line w ws) (λ o. Ok (instruction o)))))))

-- what a line says of the library that it stands in
pub data Item : Type 0 where
  inward : Item
  needs : Name → Item
  define : Definition → Item
  init : ℕ → Item
  fini : ℕ → Item
  cell : Cell → Item

-- a definition of a symbol
abbrev pub defined : Symbol → ℕ → Bool → Item
defined s k b = define (record { symbol = s; cell = k; inner = b })

-- a line, by its first word and the words behind it
abbrev pub item_line : Name → List Name → Read Item
item_line w ws =
    cond (same w k_inward) (end_line inward ws)
    (cond (same w k_needs) (one_operand (takes a_word) needs ws)
    (cond (same w k_def) (three_operands a_symbol (takes a_cell) (takes (either k_inner k_all)) defined ws)
    (cond (same w k_init) (one_operand (takes a_cell) init ws)
    (cond (same w k_fini) (one_operand (takes a_cell) fini ws)
    (on_ok (cell_line w ws) (λ c. Ok (cell c)))))))
