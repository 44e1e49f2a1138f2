-- What was put into a word is read from it.
use Rattle.std.specs.Option.{option_map}
use Rattle.std.specs.Prelude.{Some}
use mathlib.Core.Bool.{true, false}
use mathlib.Core.Path.{◌≡◌, refl, ap, ◌∙◌}
use Prim.Native.Nat.{ℕ, ◌+◌, ◌%◌, ◌<◌}
use native.Mathlib.Omega.{arith}
use Rattle.library.specs.Library.{Instruction, Set, Get, Sto, Own, Add, Sub, Mul, Less, Same, Move, Jump, If0, Call, Callr, Ret, Push, Pop, Out, In, Open, Find, Close, End}
use Rattle.library.specs.Fine.{Fine}
use Rattle.processor.specs.Cpu.{parts, wide}
use Rattle.processor.specs.Laws.{Fits}
use Rattle.processor.proofs.Encoding.{encodes}
use Rattle.image.specs.Encode.{apart, fields, encode, operation_at, cell_behind, instruction_at, Decodes}

apart_small : (k me : ℕ) → apart k me < 4294967296
unfolding apart
apart_small k me = omega arith

-- a relative place leads to the cell that it was made from, wherever the library lies
pub apart_there : (b k me : ℕ) → me < 4294967296 → b + k < 4294967296 → (b + me + apart k me) % 4294967296 ≡ b + k
unfolding apart
apart_there b k me hm h = omega arith

-- every field has room in the word
fits : (p : Instruction) (me : ℕ) → Fine p → Fits (fields p me)
fits (Set r n) me h = omega arith
fits (Get r s n) me h = omega arith
fits (Sto r n s) me h = omega arith
fits (Own r k) me h = omega (arith, apart_small k me)
fits (Add r s t) me h = omega arith
fits (Sub r s t) me h = omega arith
fits (Mul r s t) me h = omega arith
fits (Less r s t) me h = omega arith
fits (Same r s t) me h = omega arith
fits (Move r s) me h = omega arith
fits (Jump k) me h = omega (arith, apart_small k me)
fits (If0 r k) me h = omega (arith, apart_small k me)
fits (Call k) me h = omega (arith, apart_small k me)
fits (Callr r) me h = omega arith
fits Ret me h = omega arith
fits (Push r) me h = omega arith
fits (Pop r) me h = omega arith
fits (Out r) me h = omega arith
fits (In r) me h = omega arith
fits (Open r k true) me h = omega (arith, apart_small k me)
fits (Open r k false) me h = omega (arith, apart_small k me)
fits (Find r s k) me h = omega (arith, apart_small k me)
fits (Close r) me h = omega arith
fits (End r) me h = omega arith

pub fields_back : (p : Instruction) (me : ℕ) → Fine p → parts (encode p me) ≡ fields p me
fields_back p me h = encodes.fields_back (operation_at me p) (fits p me h)

-- the cell that an instruction at me names
cell_back : (k me : ℕ) → k < 65536 → me < wide → cell_behind me (apart k me) ≡ k
unfolding apart
cell_back k me h l = omega arith

back : (p : Instruction) (me : ℕ) → Fine p → me < wide → instruction_at me (operation_at me p) ≡ p
back (Set r n) me h l = refl
back (Get r s n) me h l = refl
back (Sto r n s) me h l = refl
back (Own r k) me h l = ap (λ x. Own r x) (cell_back k me h.1 l)
back (Add r s t) me h l = refl
back (Sub r s t) me h l = refl
back (Mul r s t) me h l = refl
back (Less r s t) me h l = refl
back (Same r s t) me h l = refl
back (Move r s) me h l = refl
back (Jump k) me h l = ap (λ x. Jump x) (cell_back k me h l)
back (If0 r k) me h l = ap (λ x. If0 r x) (cell_back k me h.1 l)
back (Call k) me h l = ap (λ x. Call x) (cell_back k me h l)
back (Callr r) me h l = refl
back Ret me h l = refl
back (Push r) me h l = refl
back (Pop r) me h l = refl
back (Out r) me h l = refl
back (In r) me h l = refl
back (Open r k global) me h l = ap (λ x. Open r x global) (cell_back k me h.1 l)
back (Find r s k) me h l = ap (λ x. Find r s x) (cell_back k me h.2 l)
back (Close r) me h l = refl
back (End r) me h l = refl

pub decodes : Decodes
decodes = record { fields_back = fields_back; instruction_back = λ p me h l. ap (option_map (instruction_at me)) (encodes.operation_back (operation_at me p) (fits p me h)) ∙ ap Some (back p me h l) }
