-- What is retained is bound to nothing that leaves.
use Rattle.std.specs.Prelude.{cond}
use Rattle.std.proofs.Common.{◌≡◌, ℕ, zero, suc, ◌≤◌, Bool, true, false, eqb, List, [], ◌∷◌, length, sym, refl, ap, ◌∙◌, subst, ⊎_elim, arith}
use Rattle.base.specs.Lists.{has, Within}
use Rattle.base.proofs.Sets.{has_here, has_there, within_or, miss, miss_le, miss_less, miss_none}
use Rattle.links.specs.Links.{Module}
use Rattle.links.specs.Close.{joins, bound_of, retained}
use Rattle.links.specs.Laws.{Sound}
use Rattle.std.proofs.lemmas.Bool.{eq-eqb, eqb-true, or_cases, or_left}

pub joins_old : (xs seen : List ℕ) → Within seen (joins xs seen)
joins_old [] seen j e = e
joins_old (x ∷ xs) seen j e = go (has x seen) refl (joins_old xs seen j) (joins_old xs (x ∷ seen) j)
  where
    go : (b : Bool) → has x seen ≡ b → (has j seen ≡ true → has j (joins xs seen) ≡ true) → (has j (x ∷ seen) ≡ true → has j (joins xs (x ∷ seen)) ≡ true) → has j (joins xs (cond b seen (x ∷ seen))) ≡ true
    go true q r s = r e
    go false q r s = s (has_there j x seen e)

pub joins_new : (xs seen : List ℕ) → Within xs (joins xs seen)
joins_new [] seen j e = let z : ◌≡◌ {A = ℕ} 0 1 = cc in absurd (omega arith)
joins_new (x ∷ xs) seen j e = ⊎_elim (λ q. first (eqb-true j x q) (has x seen) refl) (λ q. joins_new xs (cond (has x seen) seen (x ∷ seen)) j q) (or_cases (eqb j x) (has j xs) e)
  where
    first : j ≡ x → (b : Bool) → has x seen ≡ b → has j (joins xs (cond b seen (x ∷ seen))) ≡ true
    first q true p = joins_old xs seen j (rw q p)
    first q false p = joins_old xs (x ∷ seen) j (or_left (eqb j x) (has j seen) (eq-eqb j x q))

-- nothing new
joins_same : (xs seen : List ℕ) → Within xs seen → joins xs seen ≡ seen
joins_same [] seen h = refl
joins_same (x ∷ xs) seen h = rw (h x (has_here x xs)) (joins_same xs seen (λ j e. h j (has_there j x xs e)))

pub retained_fixed : (n : ℕ) (is : List Module) (js : List ℕ) → Within (bound_of is js) js → retained n is js ≡ js
retained_fixed zero is js h = refl
retained_fixed (suc n) is js h = ap (retained n is) (joins_same (bound_of is js) js h) ∙ retained_fixed n is js h

pub retained_in : (r n : ℕ) (is : List Module) (js : List ℕ) → Sound n is → miss n js ≤ r → Within (bound_of is (retained r is js)) (retained r is js)
retained_in zero n is js s h = λ j e. miss_none n js h j (s js j e)
retained_in (suc r) n is js s h = ⊎_elim (λ w. subst (λ z. Within (bound_of is z) z) (sym (retained_fixed (suc r) is js w)) w) (λ x. retained_in r n is (joins (bound_of is js) js) s (omega (arith, miss_less n js (joins (bound_of is js) js) x.0 (s js x.0 x.1) (joins_old (bound_of is js) js) x.2 (joins_new (bound_of is js) js x.0 x.1)))) (within_or (bound_of is js) js)

pub retained_closed : (is : List Module) (js : List ℕ) → Sound (length is) is → Within (bound_of is (retained (length is) is js)) (retained (length is) is js)
retained_closed is js s = retained_in (length is) (length is) is js s (miss_le (length is) js)
