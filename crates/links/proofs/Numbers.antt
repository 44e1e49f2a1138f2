-- Numbers in lists: where one that is there stands, what a filter keeps, lists without repetition.
use Rattle.std.specs.Prelude.{cond, filter}
use Rattle.std.proofs.Common.{◌≡◌, ℕ, zero, suc, ◌≤◌, Bool, true, false, eqb, ◌⊎◌, List, [], ◌∷◌, ◌++◌, sym, refl, ap, ◌∙◌, inl, inr, ⊎_elim, arith}
use Rattle.base.specs.Lists.{has}
use Rattle.base.proofs.Sets.{has_here, has_there}
use Rattle.links.specs.Laws.{up_from}
use Rattle.links.specs.Whole.{Distinct}
use Rattle.links.proofs.Leaving.{has-append}
use Rattle.std.proofs.lemmas.Bool.{cases_Bool, eqb-true, eq-eqb, or_cases, or_left}

pub has_none : {A : Type 0} (j : ℕ) → has j [] ≡ true → A
has_none j e = let z : ◌≡◌ {A = ℕ} 0 1 = cc in absurd (omega arith)

pub has_not : {A : Type 0} (j : ℕ) (js : List ℕ) → has j js ≡ true → has j js ≡ false → A
has_not j js e f = let z : ◌≡◌ {A = ℕ} 0 1 = cc in absurd (omega arith)

pub has_cases : (j i : ℕ) (js : List ℕ) → has j (i ∷ js) ≡ true → (j ≡ i) ⊎ (has j js ≡ true)
has_cases j i js e = ⊎_elim (λ p. inl (eqb-true j i p)) inr (or_cases (eqb j i) (has j js) e)

pub has_first : (j i : ℕ) (js : List ℕ) → j ≡ i → has j (i ∷ js) ≡ true
has_first j i js e = or_left (eqb j i) (has j js) (eq-eqb j i e)

pub has-keep : (f : ℕ → Bool) (j : ℕ) (js : List ℕ) → has j js ≡ true → f j ≡ true → has j (filter f js) ≡ true
has-keep f j [] e h = has_none j e
has-keep f j (i ∷ js) e h = go (f i) refl (has-keep f j js)
  where
    go : (b : Bool) → f i ≡ b → (has j js ≡ true → f j ≡ true → has j (filter f js) ≡ true) → has j (cond b (i ∷ filter f js) (filter f js)) ≡ true
    go true q r = ⊎_elim (has_first j i (filter f js)) (λ p. has_there j i (filter f js) (r p h)) (has_cases j i js e)
    go false q r = ⊎_elim (λ p. absurd (clash (sym h ∙ ap f p ∙ q))) (λ p. r p h) (has_cases j i js e)
      where
        clash : true ≡ false → ⊥
        clash z = let w : ◌≡◌ {A = ℕ} 0 1 = cc in omega arith

pub keep-has : (f : ℕ → Bool) (j : ℕ) (js : List ℕ) → has j (filter f js) ≡ true → (has j js ≡ true) × (f j ≡ true)
keep-has f j [] e = has_none j e
keep-has f j (i ∷ js) e = go (f i) refl e (keep-has f j js)
  where
    go : (b : Bool) → f i ≡ b → has j (cond b (i ∷ filter f js) (filter f js)) ≡ true → (has j (filter f js) ≡ true → (has j js ≡ true) × (f j ≡ true)) → (has j (i ∷ js) ≡ true) × (f j ≡ true)
    go true q e r = ⊎_elim (λ p. (has_first j i js p, ap f p ∙ q)) (λ p. let t = r p in (has_there j i js t.0, t.1)) (has_cases j i (filter f js) e)
    go false q e r = let t = r e in (has_there j i js t.0, t.1)

pub distinct_append : (xs ys : List ℕ) → Distinct xs → Distinct ys → ((j : ℕ) → has j xs ≡ true → has j ys ≡ false) → Distinct (xs ++ ys)
distinct_append [] ys p q h = q
distinct_append (x ∷ xs) ys p q h = (⊎_elim (λ e. ⊎_elim (λ a. has_not x xs a p.0) (λ a. has_not x ys a (h x (has_here x xs))) (has-append xs ys x e)) (λ e. e) (cases_Bool (has x (xs ++ ys))), distinct_append xs ys p.1 q (λ j e. h j (has_there j x xs e)))

pub up_from_least : (a n j : ℕ) → has j (up_from a n) ≡ true → a ≤ j
up_from_least a zero j e = has_none j e
up_from_least a (suc n) j e = ⊎_elim (λ p. omega arith) (λ p. omega (arith, up_from_least (suc a) n j p)) (has_cases j a (up_from (suc a) n) e)
