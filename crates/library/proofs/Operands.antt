-- Registers, numbers and cells that a line names are in range.
use Rattle.std.specs.Prelude.{None, Option, Some}
use Rattle.std.proofs.Common.{◌≡◌, ℕ, ◌<◌, Bool, true, false, ltb, List, [], ◌∷◌, Ok, Err, refl, subst, arith}
use Rattle.base.specs.Choices.{opt, on_some, guard, on_ok}
use Rattle.std.specs.Result.{IfOk}
use Rattle.base.specs.Names.{Name, same}
use Rattle.base.proofs.Choices.{cond_ok, on_ok_if}
use Rattle.text.specs.Words.{digits, below}
use Rattle.library.specs.Library as library
use Rattle.library.specs.Library.{Instruction, Cell, number, ref, at, slot, named}
use Rattle.library.specs.Keywords.{k_all, k_inner, k_must, k_may, k_word, k_ref, k_at, k_slot, k_name, k_inward, k_needs, k_def, k_init, k_fini}
use Rattle.library.specs.Lines.{Read, Reads, number_below, a_register, a_cell, a_number, a_word, either, takes, end_line, both, three, one_operand, two_operands, three_operands, a_symbol, defined, ternary, unary_of, operands, opcode_of, instruction_line, cell_line, Item, inward, needs, define, init, fini, cell, item_line}
use Rattle.library.specs.Text.{cell_reach, item_reach}
use Rattle.library.specs.Fine.{Fine, CellFine}
use Rattle.library.specs.declared.faults.LineFault.{LineFault}
use Rattle.library.specs.declared.faults.LineFault.TheVariants.{UnknownKeyword}
use Rattle.library.specs.declared.types.Arithmetic.{Arithmetic}
use Rattle.library.specs.declared.types.Arithmetic.TheVariants as arithmetic
use Rattle.library.specs.declared.types.Unary.{Unary}
use Rattle.library.specs.declared.types.Unary.TheVariants as unary
use Rattle.library.specs.declared.types.Opcode.{Opcode}
use Rattle.library.specs.declared.types.Opcode.TheVariants as opcode
use Rattle.std.proofs.lemmas.Bool.{ltb-true}

end_all : {C : Type 0} (P : C → Type 0) (c : C) (ws : List Name) → P c → IfOk (end_line c ws) P
end_all P c [] p = p
end_all P c (w ∷ ws) p = tt

below_lt : (m : ℕ) (w : Name) (n : ℕ) → below m w ≡ Some n → n < m
below_lt m [] n e = let z : ◌≡◌ {A = ℕ} 0 1 = cc in absurd (omega arith)
below_lt m (c ∷ cs) n e = go (digits 0 (c ∷ cs)) e
  where
    test : (a : ℕ) (b : Bool) → ltb a m ≡ b → guard b (Some a) ≡ Some n → n < m
    test a true q e = let r : a ≡ n = cc in omega (arith, ltb-true a m q)
    test a false q e = let z : ◌≡◌ {A = ℕ} 0 1 = cc in absurd (omega arith)

    go : (o : Option ℕ) → on_some o (λ n. guard (ltb n m) (Some n)) ≡ Some n → n < m
    go None e = let z : ◌≡◌ {A = ℕ} 0 1 = cc in absurd (omega arith)
    go (Some a) e = test a (ltb a m) refl e

number_lt : (f : LineFault) (m : ℕ) (w : Name) (n : ℕ) → number_below f m w ≡ Ok n → n < m
number_lt f m w n e = go (below m w) refl e
  where
    go : (o : Option ℕ) → below m w ≡ o → opt o (Err f) Ok ≡ Ok n → n < m
    go None q r = let z : ◌≡◌ {A = ℕ} 0 1 = cc in absurd (omega arith)
    go (Some a) q r = let p : a ≡ n = cc in rw p at (below_lt m w a q)

-- what holds of each value that a reader of a line gives
record Gives {A : Type 0} (P : A → Type 0) (f : Reads A) : Type 0 where
  all : (ws : List Name) → IfOk (f ws) (λ p. P p.0)

-- any value
abbrev Any : {A : Type 0} → A → Type 0
Any a = Unit

takes_gives : {A : Type 0} (P : A → Type 0) (f : Name → Read A) → ((w : Name) (a : A) → f w ≡ Ok a → P a) → Gives P (takes f)
takes_gives {A = A} P f h = record { all = first }
  where
    go : (w : Name) (ws : List Name) (r : Read A) → f w ≡ r → IfOk (on_ok {A = A} {C = A × List Name} r (λ a. Ok (a, ws))) (λ p. P p.0)
    go w ws (Ok a) e = h w a e
    go w ws (Err q) e = tt

    first : (ws : List Name) → IfOk (takes f ws) (λ p. P p.0)
    first [] = tt
    first (w ∷ ws) = go w ws (f w) refl

registers : Gives (λ a. a < 8) (takes a_register)
registers = takes_gives _ a_register (number_lt _ 8)

cells : Gives (λ a. a < 65536) (takes a_cell)
cells = takes_gives _ a_cell (number_lt _ 65536)

numbers : Gives (λ a. a < 4294967296) (takes a_number)
numbers = takes_gives _ a_number (number_lt _ 4294967296)

any_of : {A : Type 0} (f : Reads A) → Gives Any f
any_of {A = A} f = record { all = λ ws. go (f ws) }
  where
    go : (r : Read (A × List Name)) → IfOk r (λ p. Any p.0)
    go (Ok p) = tt
    go (Err e) = tt

both_give : {A B : Type 0} {P : A → Type 0} {R : B → Type 0} {f : Reads A} {g : Reads B} → Gives P f → Gives R g → Gives (λ p. P p.0 × R p.1) (both f g)
both_give {A = A} {B = B} {P = P} {R = R} {f = f} {g = g} p r = record { all = λ ws. first (f ws) (p.all ws) }
  where
    second : (a : A) → P a → (o : Read (B × List Name)) → IfOk o (λ x. R x.0) → IfOk (on_ok {A = B × List Name} {C = (A × B) × List Name} o (λ q. Ok ((a, q.0), q.1))) (λ x. P x.0.0 × R x.0.1)
    second a h (Ok x) q = (h, q)
    second a h (Err e) q = tt

    first : (o : Read (A × List Name)) → IfOk o (λ x. P x.0) → IfOk (on_ok {A = A × List Name} {C = (A × B) × List Name} o (λ p. on_ok (g p.1) (λ q. Ok ((p.0, q.0), q.1)))) (λ x. P x.0.0 × R x.0.1)
    first (Ok x) q = second x.0 q (g x.1) (r.all x.1)
    first (Err e) q = tt

three_give : {A B D : Type 0} {P : A → Type 0} {R : B → Type 0} {S : D → Type 0} {f : Reads A} {g : Reads B} {h : Reads D} → Gives P f → Gives R g → Gives S h → Gives (λ p. P p.0 × R p.1 × S p.2) (three f g h)
three_give {A = A} {B = B} {D = D} {P = P} {R = R} {S = S} {f = f} {g = g} {h = h} p r s = record { all = λ ws. first (f ws) (p.all ws) }
  where
    third : (a : A) (b : B) → P a → R b → (o : Read (D × List Name)) → IfOk o (λ x. S x.0) → IfOk (on_ok {A = D × List Name} {C = (A × B × D) × List Name} o (λ r. Ok ((a, b, r.0), r.1))) (λ x. P x.0.0 × R x.0.1 × S x.0.2)
    third a b u v (Ok x) q = (u, v, q)
    third a b u v (Err e) q = tt

    second : (a : A) → P a → (o : Read (B × List Name)) → IfOk o (λ x. R x.0) → IfOk (on_ok {A = B × List Name} {C = (A × B × D) × List Name} o (λ q. on_ok (h q.1) (λ r. Ok ((a, q.0, r.0), r.1)))) (λ x. P x.0.0 × R x.0.1 × S x.0.2)
    second a u (Ok x) q = third a x.0 u q (h x.1) (s.all x.1)
    second a u (Err e) q = tt

    first : (o : Read (A × List Name)) → IfOk o (λ x. P x.0) → IfOk (on_ok {A = A × List Name} {C = (A × B × D) × List Name} o (λ p. on_ok (g p.1) (λ q. on_ok (h q.1) (λ r. Ok ((p.0, q.0, r.0), r.1))))) (λ x. P x.0.0 × R x.0.1 × S x.0.2)
    first (Ok x) q = second x.0 q (g x.1) (r.all x.1)
    first (Err e) q = tt

-- what holds of lines with one, two and three operands
one_all : {A C : Type 0} {P : A → Type 0} {f : Reads A} (Q : C → Type 0) → Gives P f → (make : A → C) (ws : List Name) → ((a : A) → P a → Q (make a)) → IfOk (one_operand f make ws) Q
one_all {A = A} {P = P} {f = f} Q p make ws h = go (f ws) (p.all ws)
  where
    ended : (a : A) (xs : List Name) → P a → IfOk (on_ok (end_line a xs) (λ x. Ok (make x))) Q
    ended a [] q = h a q
    ended a (x ∷ xs) q = tt

    go : (r : Read (A × List Name)) → IfOk r (λ x. P x.0) → IfOk (on_ok (on_ok r (λ x. end_line x.0 x.1)) (λ x. Ok (make x))) Q
    go (Ok x) q = ended x.0 x.1 q
    go (Err e) q = tt

two_all : {A B C : Type 0} {P : A → Type 0} {R : B → Type 0} {f : Reads A} {g : Reads B} (Q : C → Type 0) → Gives P f → Gives R g → (make : A → B → C) (ws : List Name) → ((a : A) (b : B) → P a → R b → Q (make a b)) → IfOk (two_operands f g make ws) Q
two_all Q p r make ws h = one_all Q (both_give p r) (λ x. make x.0 x.1) ws (λ x q. h x.0 x.1 q.0 q.1)

three_all : {A B D C : Type 0} {P : A → Type 0} {R : B → Type 0} {S : D → Type 0} {f : Reads A} {g : Reads B} {k : Reads D} (Q : C → Type 0) → Gives P f → Gives R g → Gives S k → (make : A → B → D → C) (ws : List Name) → ((a : A) (b : B) (d : D) → P a → R b → S d → Q (make a b d)) → IfOk (three_operands f g k make ws) Q
three_all Q p r s make ws h = one_all Q (three_give p r s) (λ x. make x.0 x.1 x.2) ws (λ x q. h x.0 x.1 x.2 q.0 q.1 q.2)

ternary_fine : (o : Arithmetic) (a b c : ℕ) → a < 8 → b < 8 → c < 8 → Fine (ternary o a b c)
ternary_fine arithmetic.Add a b c p q r = (p, q, r)
ternary_fine arithmetic.Sub a b c p q r = (p, q, r)
ternary_fine arithmetic.Mul a b c p q r = (p, q, r)
ternary_fine arithmetic.Less a b c p q r = (p, q, r)
ternary_fine arithmetic.Same a b c p q r = (p, q, r)

unary_fine : (o : Unary) (a : ℕ) → a < 8 → Fine (unary_of o a)
unary_fine unary.Callr a p = p
unary_fine unary.Push a p = p
unary_fine unary.Pop a p = p
unary_fine unary.Out a p = p
unary_fine unary.In a p = p
unary_fine unary.Close a p = p
unary_fine unary.End a p = p

operands_fine : (k : Opcode) (ws : List Name) → IfOk (operands k ws) Fine
operands_fine opcode.Set ws = two_all Fine registers numbers library.Set ws (λ a b p q. (p, q))
operands_fine opcode.Get ws = three_all Fine registers registers numbers library.Get ws (λ a b c p q r. (p, q, r))
operands_fine opcode.Sto ws = three_all Fine registers numbers registers library.Sto ws (λ a b c p q r. (p, q, r))
operands_fine opcode.Own ws = two_all Fine registers cells library.Own ws (λ a b p q. (p, q))
operands_fine (opcode.Arithmetic o) ws = three_all Fine registers registers registers (ternary o) ws (ternary_fine o)
operands_fine opcode.Move ws = two_all Fine registers registers library.Move ws (λ a b p q. (p, q))
operands_fine opcode.Jump ws = one_all Fine cells library.Jump ws (λ a p. p)
operands_fine opcode.If0 ws = two_all Fine registers cells library.If0 ws (λ a b p q. (p, q))
operands_fine opcode.Call ws = one_all Fine cells library.Call ws (λ a p. p)
operands_fine opcode.Ret ws = end_all Fine _ ws tt
operands_fine (opcode.Unary o) ws = one_all Fine registers (unary_of o) ws (unary_fine o)
operands_fine opcode.Open ws = three_all Fine registers cells (any_of (takes (either k_all k_inner))) library.Open ws (λ a b c p q r. (p, q))
operands_fine opcode.Find ws = three_all Fine registers registers cells library.Find ws (λ a b c p q r. (p, q, r))

instruction_fine : (w : Name) (ws : List Name) → IfOk (instruction_line w ws) Fine
instruction_fine w ws = go (opcode_of w)
  where
    go : (o : Option Opcode) → IfOk (opt o (Err UnknownKeyword) (λ k. operands k ws)) Fine
    go None = tt
    go (Some k) = operands_fine k ws

-- a cell, where there are as many cells as it names
abbrev CellOwn : Cell → Type 0
CellOwn c = CellFine (cell_reach c) c

cell_line_fine : (w : Name) (ws : List Name) → IfOk (cell_line w ws) CellOwn
cell_line_fine w ws =
    cond_ok CellOwn (same w k_word) _ _ (one_all CellOwn numbers number ws (λ a p. p))
    (cond_ok CellOwn (same w k_ref) _ _ (three_all CellOwn (any_of a_symbol) numbers (any_of (takes (either k_must k_may))) ref ws (λ s n b p q r. q))
    (cond_ok CellOwn (same w k_at) _ _ (one_all CellOwn cells at ws (λ a p. omega arith))
    (cond_ok CellOwn (same w k_slot) _ _ (one_all CellOwn (any_of a_symbol) slot ws (λ s p. tt))
    (cond_ok CellOwn (same w k_name) _ _ (one_all CellOwn (any_of (takes a_word)) named ws (λ x p. tt))
    (on_ok_if CellOwn (instruction_line w ws) _ (λ o e. (subst (λ r. IfOk r Fine) e (instruction_fine w ws), omega arith)))))))

-- what a line says, where there are z cells
abbrev pub ItemFine : ℕ → Item → Type 0
ItemFine z inward = Unit
ItemFine z (needs x) = Unit
ItemFine z (define d) = d.cell < z
ItemFine z (init k) = k < z
ItemFine z (fini k) = k < z
ItemFine z (cell c) = CellFine z c

abbrev pub ItemOwn : Item → Type 0
ItemOwn i = ItemFine (item_reach i) i

pub item_line_fine : (w : Name) (ws : List Name) → IfOk (item_line w ws) ItemOwn
item_line_fine w ws =
    cond_ok ItemOwn (same w k_inward) _ _ (end_all ItemOwn _ ws tt)
    (cond_ok ItemOwn (same w k_needs) _ _ (one_all ItemOwn (any_of (takes a_word)) needs ws (λ x p. tt))
    (cond_ok ItemOwn (same w k_def) _ _ (three_all ItemOwn (any_of a_symbol) cells (any_of (takes (either k_inner k_all))) defined ws (λ s k b p q r. omega arith))
    (cond_ok ItemOwn (same w k_init) _ _ (one_all ItemOwn cells init ws (λ k p. omega arith))
    (cond_ok ItemOwn (same w k_fini) _ _ (one_all ItemOwn cells fini ws (λ k p. omega arith))
    (on_ok_if ItemOwn (cell_line w ws) _ (λ c e. subst (λ r. IfOk r CellOwn) e (cell_line_fine w ws)))))))
