-- A word does what the instruction does that it is decoded to.
use Rattle.std.specs.Prelude.{cond, slice_get}
use Rattle.std.proofs.Common.{◌≡◌, ℕ, Bool, true, false, eqb, Some, Option, sym, refl, ap, ◌∙◌, ne_eqb}
use Rattle.base.specs.Choices.{opt}
use Rattle.processor.specs.Cpu.{Processor, Did, Parts, did, does, parts, step}
use Rattle.processor.specs.declared.Event.TheVariants.{Home, Stuck}
use Rattle.processor.specs.Operations.{kind, act, decoded}
use Rattle.processor.specs.Laws.{Decodes}
use Rattle.processor.specs.declared.words.Operation.{Operation}
use Rattle.processor.specs.declared.words.Operation.TheVariants.{Set, Load, Store, Own, Add, Sub, Mul, Less, Same, Move, Jump, JumpIfZero, Call, CallRegister, Return, Push, Pop, Out, In, Open, Find, Close, End}

-- past one number of the table
past : (c : Processor) (b : Bool) (x y : Option Operation) {u v : Did} → act c x ≡ u → act c y ≡ v → act c (cond b x y) ≡ cond b u v
past c true x y p q = p
past c false x y p q = q

act_kind : (c : Processor) (p : Parts) → act c (kind p) ≡ does c p
act_kind c p =
    past c (eqb p.o 1) (Some (Set p.r p.k)) _ refl
    (past c (eqb p.o 2) (Some (Load p.r p.a p.k)) _ refl
    (past c (eqb p.o 3) (Some (Store p.a p.k p.r)) _ refl
    (past c (eqb p.o 4) (Some (Own p.r p.k)) _ refl
    (past c (eqb p.o 5) (Some (Add p.r p.a p.b)) _ refl
    (past c (eqb p.o 6) (Some (Sub p.r p.a p.b)) _ refl
    (past c (eqb p.o 7) (Some (Mul p.r p.a p.b)) _ refl
    (past c (eqb p.o 8) (Some (Less p.r p.a p.b)) _ refl
    (past c (eqb p.o 9) (Some (Same p.r p.a p.b)) _ refl
    (past c (eqb p.o 10) (Some (Move p.r p.a)) _ refl
    (past c (eqb p.o 11) (Some (Jump p.k)) _ refl
    (past c (eqb p.o 12) (Some (JumpIfZero p.r p.k)) _ refl
    (past c (eqb p.o 13) (Some (Call p.k)) _ refl
    (past c (eqb p.o 14) (Some (CallRegister p.r)) _ refl
    (past c (eqb p.o 15) (Some Return) _ refl
    (past c (eqb p.o 16) (Some (Push p.r)) _ refl
    (past c (eqb p.o 17) (Some (Pop p.r)) _ refl
    (past c (eqb p.o 18) (Some (Out p.r)) _ refl
    (past c (eqb p.o 19) (Some (In p.r)) _ refl
    (past c (eqb p.o 20) (Some (Open p.r p.k (eqb p.a 1))) _ refl
    (past c (eqb p.o 21) (Some (Find p.r p.a p.k)) _ refl
    (past c (eqb p.o 22) (Some (Close p.r)) _ refl
    (past c (eqb p.o 23) (Some (End p.r)) _ refl refl))))))))))))))))))))))

pub decodes : Decodes
decodes c w = sym (act_kind c (parts w))

-- a step, once the word is known at which the processor is
pub steps_to : (c : Processor) (p w : ℕ) → p ≡ c.pc → (p ≡ 0 → ⊥) → slice_get c.words p ≡ Some w → step c ≡ act c (decoded w)
steps_to c p w e h n =
    ap (λ b. cond b (did c Home) (opt (slice_get c.words c.pc) (did c Stuck) (λ w. does c (parts w)))) (ne_eqb c.pc 0 (λ z. h (e ∙ z)))
    ∙ (ap (λ o. opt o (did c Stuck) (λ w. does c (parts w))) (ap (slice_get c.words) (sym e) ∙ n) ∙ decodes c w)
