-- Numbers put behind others.
use Rattle.std.specs.Prelude.{Bool, true, false, cond, nat_lt}
use Rattle.std.proofs.Common.{◌≡◌, ℕ, ◌<◌, ◌≤◌, ◌⊎◌, inl, inr, ⊎_elim, List, [], ◌∷◌, ◌++◌, length, take, sym, refl, ap, ◌∙◌, subst, append_assoc}
use Rattle.std.proofs.lemmas.Bool.{lt-ltb}
use Rattle.std.proofs.lemmas.List.{append-nil, take-append-le}
use Rattle.base.specs.Lists.{has, Within}
use Rattle.base.proofs.Sets.{has_here, has_there}
use Rattle.lent.specs.Once.{joined}
use Rattle.lent.specs.Numbers.{numbers, limit}
use Rattle.lent.specs.declared.once.Once.{Once}
use Rattle.links.proofs.Leaving.{has-append, has_left, has_right}
use Rattle.links.proofs.Numbers.{has_none, has_cases}
use Rattle.closes.specs.Staying.{gathered, Added, WithinBelow}

-- one number
step_grows : (n j : ℕ) (seen : List ℕ) → (more : List ℕ) × (cond (nat_lt j n) (joined j seen) seen ≡ seen ++ more)
step_grows n j seen = go (nat_lt j n) (has j seen)
  where
    go : (a b : Bool) → (more : List ℕ) × (cond a (cond b seen (seen ++ j ∷ [])) seen ≡ seen ++ more)
    go true true = ([], sym (append-nil seen))
    go true false = (j ∷ [], refl)
    go false b = ([], sym (append-nil seen))

step_new : (n j : ℕ) (seen : List ℕ) → j < n → has j (cond (nat_lt j n) (joined j seen) seen) ≡ true
step_new n j seen l = ap (λ b. has j (cond b (joined j seen) seen)) (lt-ltb j n l) ∙ go (has j seen) refl
  where
    go : (b : Bool) → has j seen ≡ b → has j (cond b seen (seen ++ j ∷ [])) ≡ true
    go true e = e
    go false e = has_right seen (j ∷ []) j (has_here j [])

step_from : (n i : ℕ) (seen : List ℕ) (j : ℕ) → has j (cond (nat_lt i n) (joined i seen) seen) ≡ true → (has j (i ∷ []) ≡ true) ⊎ (has j seen ≡ true)
step_from n i seen j = go (nat_lt i n) (has i seen)
  where
    go : (a b : Bool) → has j (cond a (cond b seen (seen ++ i ∷ [])) seen) ≡ true → (has j (i ∷ []) ≡ true) ⊎ (has j seen ≡ true)
    go true true e = inr e
    go true false e = ⊎_elim inr inl (has-append seen (i ∷ []) j e)
    go false b e = inr e

-- what was there stays in its place
pub gathered_grows : (n : ℕ) (js seen : List ℕ) → (more : List ℕ) × (gathered n js seen ≡ seen ++ more)
gathered_grows n [] seen = ([], sym (append-nil seen))
gathered_grows n (j ∷ js) seen =
    let s = step_grows n j seen in
    let r = gathered_grows n js (cond (nat_lt j n) (joined j seen) seen) in
    (s.0 ++ r.0, r.1 ∙ ap (λ z. z ++ r.0) s.1 ∙ append_assoc seen s.0 r.0)

pub gathered_old : (n : ℕ) (js seen : List ℕ) → Within seen (gathered n js seen)
gathered_old n js seen j e = let g = gathered_grows n js seen in ap (has j) g.1 ∙ has_left seen g.0 j e

pub gathered_take : (n m : ℕ) (js seen : List ℕ) → m ≤ length seen → take m (gathered n js seen) ≡ take m seen
gathered_take n m js seen h = let g = gathered_grows n js seen in ap (take m) g.1 ∙ take-append-le m seen g.0 h

-- what comes is there, and nothing else
pub gathered_new : (n : ℕ) (js seen : List ℕ) → WithinBelow n js (gathered n js seen)
gathered_new n [] seen j l e = has_none j e
gathered_new n (i ∷ js) seen j l e = ⊎_elim
    (λ (q : j ≡ i). gathered_old n js (cond (nat_lt i n) (joined i seen) seen) j (subst (λ k. has j (cond (nat_lt k n) (joined k seen) seen) ≡ true) q (step_new n j seen l)))
    (λ q. gathered_new n js (cond (nat_lt i n) (joined i seen) seen) j l q)
    (has_cases j i js e)

pub gathered_from : (n : ℕ) (js seen : List ℕ) (j : ℕ) → has j (gathered n js seen) ≡ true → (has j js ≡ true) ⊎ (has j seen ≡ true)
gathered_from n [] seen j e = inr e
gathered_from n (i ∷ js) seen j e = ⊎_elim
    (λ q. inl (has_there j i js q))
    (λ q. ⊎_elim (λ p. inl (has_left (i ∷ []) js j p)) inr (step_from n i seen j q))
    (gathered_from n js (cond (nat_lt i n) (joined i seen) seen) j e)

-- one list after the other
pub gathered-append : (n : ℕ) (is js seen : List ℕ) → gathered n (is ++ js) seen ≡ gathered n js (gathered n is seen)
gathered-append n [] js seen = refl
gathered-append n (i ∷ is) js seen = gathered-append n is js (cond (nat_lt i n) (joined i seen) seen)

-- nothing came
pub none_added : (o : Once) (js : List ℕ) → js ≡ [] → Added o o js
none_added o js e = record { numbers = sym (ap (λ is. gathered (limit o) is (numbers o)) e); limit = refl; taken = refl }
