-- Parts of elements: a cell of a module, a binding of a module; one of them replaced.
use Rattle.std.proofs.lemmas.Option.{slice_get_within, none-some, same_Some}
use Rattle.std.specs.Prelude.{None, Option, Some, slice_get, slice_set}
use Rattle.std.proofs.Common.{◌≡◌, ℕ, zero, suc, ◌≤◌, ◌⊎◌, List, [], ◌∷◌, length, sym, refl, ap, ◌∙◌, subst, inl, inr, ⊎_elim, arith}
use Rattle.base.specs.Choices.{opt, on_some}
use Rattle.base.proofs.Choices.{on_some_inv}
use Rattle.base.proofs.Lists.{slice_get-set_same, slice_get-set_other}
use Rattle.links.specs.Links.{Place, Module}
use Rattle.links.specs.Scope.{live_at}
use Rattle.meaning.specs.State.{Held, State, held_at}
use Rattle.std.proofs.lemmas.Bool.{cases_eq, cases_lt}

-- the part c of the element i
abbrev pub part_at : {A B : Type 0} → (A → List B) → List A → ℕ → ℕ → Option B
part_at f xs i c = on_some (slice_get xs i) (λ x. slice_get (f x) c)

-- cells and bindings as such parts
abbrev pub helds : List Held → List Held
helds hs = hs

abbrev pub bonds : Module → List (Option Place)
bonds x = x.bound

put_none : {B : Type 0} (ys : List B) (n : ℕ) (v : B) → length ys ≤ n → slice_set ys n v ≡ ys
put_none [] n v h = refl
put_none (y ∷ ys) zero v h = absurd (omega arith)
put_none (y ∷ ys) (suc n) v h = ap (λ zs. y ∷ zs) (put_none ys n v (omega arith))

-- one part replaced
module _ {A B : Type 0} (f : A → List B) (u : A → A) (k : ℕ) (v : B) (e : (x : A) → f (u x) ≡ slice_set (f x) k v) where
  pub part_other : (xs : List A) (i a c : ℕ) → (a ≡ i → c ≡ k → ⊥) → part_at f (opt (slice_get xs i) xs (λ x. slice_set xs i (u x))) a c ≡ part_at f xs a c
  part_other xs i a c h = go (slice_get xs i) refl
    where
      go : (o : Option A) → slice_get xs i ≡ o → part_at f (opt o xs (λ x. slice_set xs i (u x))) a c ≡ part_at f xs a c
      go None q = refl
      go (Some x) q = ⊎_elim (λ n. here n) (λ n. ap (λ o. on_some o (λ x. slice_get (f x) c)) (slice_get-set_other xs i a (u x) n)) (cases_eq a i)
        where
          here : a ≡ i → part_at f (slice_set xs i (u x)) a c ≡ part_at f xs a c
          here n = ap (λ o. on_some o (λ x. slice_get (f x) c)) (ap (slice_get (slice_set xs i (u x))) n ∙ slice_get-set_same xs i (u x) (slice_get_within xs i x q)) ∙ ap (λ ys. slice_get ys c) (e x) ∙ slice_get-set_other (f x) k c v (h n) ∙ sym (ap (λ o. on_some o (λ x. slice_get (f x) c)) (ap (slice_get xs) n ∙ q))

  pub part_same : (xs : List A) (i : ℕ) (w : B) → part_at f xs i k ≡ Some w → part_at f (opt (slice_get xs i) xs (λ x. slice_set xs i (u x))) i k ≡ Some v
  part_same xs i w h = let t = on_some_inv (slice_get xs i) (λ x. slice_get (f x) k) w h in go (slice_get xs i) refl t.0 t.1 t.2
    where
      go : (o : Option A) → slice_get xs i ≡ o → (x : A) → o ≡ Some x → slice_get (f x) k ≡ Some w → part_at f (opt o xs (λ x. slice_set xs i (u x))) i k ≡ Some v
      go None q x p r = absurd (none-some _ p)
      go (Some y) q x p r = ap (λ o. on_some o (λ x. slice_get (f x) k)) (slice_get-set_same xs i (u y) (slice_get_within xs i y q)) ∙ ap (λ ys. slice_get ys k) (e y) ∙ slice_get-set_same (f y) k v (slice_get_within (f y) k w (ap (λ z. slice_get (f z) k) (same_Some _ _ p) ∙ r))

  -- what stands somewhere now stood there, or is what was put
  pub part_any : (xs : List A) (i a c : ℕ) (w : B) → part_at f (opt (slice_get xs i) xs (λ x. slice_set xs i (u x))) a c ≡ Some w → (part_at f xs a c ≡ Some w) ⊎ (v ≡ w)
  part_any xs i a c w h = go (slice_get xs i) refl h
    where
      put_any : (ys : List B) (n : ℕ) → slice_get (slice_set ys n v) c ≡ Some w → (slice_get ys c ≡ Some w) ⊎ (v ≡ w)
      put_any ys n r = ⊎_elim (λ s. ⊎_elim (λ l. inr (same_Some _ _ (sym (slice_get-set_same ys n v l) ∙ ap (slice_get (slice_set ys n v)) (sym s) ∙ r))) (λ l. inl (subst (λ zs. slice_get zs c ≡ Some w) (put_none ys n v l) r)) (cases_lt n (length ys))) (λ s. inl (sym (slice_get-set_other ys n c v s) ∙ r)) (cases_eq c n)

      go : (o : Option A) → slice_get xs i ≡ o → part_at f (opt o xs (λ x. slice_set xs i (u x))) a c ≡ Some w → (part_at f xs a c ≡ Some w) ⊎ (v ≡ w)
      go None q r = inl r
      go (Some x) q r = ⊎_elim (λ n. ⊎_elim (λ s. inl (ap (λ o. on_some o (λ x. slice_get (f x) c)) (ap (slice_get xs) n ∙ q) ∙ s)) inr (put_any (f x) k (sym (ap (λ o. on_some o (λ x. slice_get (f x) c)) (ap (slice_get (slice_set xs i (u x))) n ∙ slice_get-set_same xs i (u x) (slice_get_within xs i x q)) ∙ ap (λ ys. slice_get ys c) (e x)) ∙ r))) (λ n. inl (sym (ap (λ o. on_some o (λ x. slice_get (f x) c)) (slice_get-set_other xs i a (u x) n)) ∙ r)) (cases_eq a i)

-- what a cell of a live module holds
pub held_part : (s : State) (i k : ℕ) (h : Held) → held_at s i k ≡ Some h → part_at helds s.cells i k ≡ Some h
held_part s i k h e = (on_some_inv (live_at s.links.modules i) _ h e).2
