-- What is said of a row that there is.
use Rattle.std.specs.Prelude.{Option, None, Some, SomeIff}
use Rattle.std.specs.Option.{option_map, option_eq}
use Rattle.std.proofs.Common.{◌≡◌, ℕ, suc, ◌-◌, ◌≤◌, eqb, sym, ap, ◌∙◌, ⊎_elim, arith}
use Rattle.std.proofs.lemmas.Bool.{cases_eq, eq-eqb, ne_eqb}

-- what the code makes of a row is what the row stands for
pub made : {A B : Type 0} (f : A → B) (r : A) (o : Option A) (x : B) → Some r ≡ o → x ≡ f r → Some x ≡ option_map f o
made f r o x e h = ap Some h ∙ ap (option_map f) e

-- a word that is one more than a number
pub one_more : (w i : ℕ) (o : Option ℕ) → SomeIff o (1 ≤ w) (w - 1) → option_eq eqb o (Some i) ≡ eqb w (suc i)
one_more w i None h = sym (ne_eqb w (suc i) (λ q. h (omega arith)))
one_more w i (Some k) h = ⊎_elim
    (λ (e : k ≡ i). eq-eqb k i e ∙ sym (eq-eqb w (suc i) (omega (arith, h.0, h.1))))
    (λ (n : k ≡ i → ⊥). ne_eqb k i n ∙ sym (ne_eqb w (suc i) (λ q. n (omega (arith, h.0, h.1)))))
    (cases_eq k i)
