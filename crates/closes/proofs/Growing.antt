-- A set that grows by what its modules are bound to, until it has what stays.
use Rattle.std.specs.Prelude.{Bool, true, false, None, Some, slice_get}
use Rattle.std.proofs.Common.{◌≡◌, ℕ, zero, suc, ◌+◌, ◌<◌, ◌≤◌, ◌⊎◌, inl, inr, ⊎_elim, List, [], ◌∷◌, ◌++◌, length, take, sym, refl, ap, ◌∙◌, subst, arith}
use Rattle.std.proofs.lemmas.Bool.{cases_Bool, cases_lt}
use Rattle.std.proofs.lemmas.List.{take_all}
use Rattle.std.proofs.lemmas.Option.{none-some, same_Some, slice_get_past, slice_get_within, slice_get-get_or}
use Rattle.base.specs.Choices.{opt, on_some, guard}
use Rattle.base.specs.Lists.{has, Within}
use Rattle.base.proofs.Sets.{has_here, has_there, miss, miss_le, miss_less, miss_none}
use Rattle.links.specs.Links.{Module, Links}
use Rattle.links.specs.Close.{joins, open_members, hosts, bound_of, retained}
use Rattle.links.specs.Whole.{staying}
use Rattle.links.proofs.Leaving.{has-append, joins_from, bound_in}
use Rattle.links.proofs.Numbers.{has_none, has_cases, has_first}
use Rattle.links.proofs.Retained.{joins_old, joins_new}
use Rattle.links.proofs.Whole.{stays_least}
use Rattle.closes.specs.Staying.{bound_of_one, gathered, WithinBelow, Stays}
use Rattle.closes.proofs.Gathering.{gathered_old, gathered_take, gathered_new, gathered_from}

-- only modules that there are are bound to anything
none_past : (ms : List Module) (i j : ℕ) → length ms ≤ i → has j (bound_of_one ms i) ≡ true → has j [] ≡ true
none_past ms i j h e = sym (ap (λ o. has j (opt (on_some o (λ x. guard x.live (Some x))) [] (λ x. hosts x.bound))) (slice_get_past ms i h)) ∙ e

bound_below : (ms : List Module) (js s : List ℕ) → WithinBelow (length ms) js s → Within (bound_of ms js) (bound_of ms s)
bound_below ms [] s h j e = has_none j e
bound_below ms (i ∷ js) s h j e = ⊎_elim
    (λ q. ⊎_elim (λ l. bound_in ms s i j (h i l (has_here i js)) q) (λ l. has_none j (none_past ms i j l q)) (cases_lt i (length ms)))
    (λ q. bound_below ms js s (λ a l b. h a l (has_there a i js b)) j q)
    (has-append (bound_of_one ms i) (bound_of ms js) j e)

-- of the modules that there are, nothing is retained but what a closed set has
pub least_below : (n : ℕ) (ms : List Module) (js s : List ℕ) → WithinBelow (length ms) js s → WithinBelow (length ms) (bound_of ms s) s → WithinBelow (length ms) (retained n ms js) s
least_below zero ms js s h c = h
least_below (suc n) ms js s h c = least_below n ms (joins (bound_of ms js) js) s (λ j l e. ⊎_elim (λ q. c j l (bound_below ms js s h j q)) (h j l) (joins_from (bound_of ms js) js j e)) c

within_below_or : (n : ℕ) (xs ys : List ℕ) → WithinBelow n xs ys ⊎ ((x : ℕ) × (x < n) × (has x xs ≡ true) × (has x ys ≡ false))
within_below_or n [] ys = inl (λ j l e. has_none j e)
within_below_or n (x ∷ xs) ys = ⊎_elim
    (λ (w : WithinBelow n xs ys). ⊎_elim
    (λ (l : x < n). ⊎_elim (λ (q : has x ys ≡ true). inl (λ j m e. ⊎_elim (λ (p : j ≡ x). ap (λ a. has a ys) p ∙ q) (w j m) (has_cases j x xs e))) (λ q. inr (x, l, has_here x xs, q)) (cases_Bool (has x ys)))
    (λ (l : n ≤ x). inl (λ j m e. ⊎_elim (λ (p : j ≡ x). absurd (omega arith)) (w j m) (has_cases j x xs e)))
    (cases_lt x n))
    (λ r. inr (r.0, r.1, has_there r.0 x xs r.2, r.3))
    (within_below_or n xs ys)

retained_more : (n : ℕ) (ms : List Module) (js : List ℕ) → Within js (retained n ms js)
retained_more zero ms js j e = e
retained_more (suc n) ms js j e = retained_more n ms (joins (bound_of ms js) js) j (joins_old (bound_of ms js) js j e)

-- what is retained is bound to nothing else that there is
closed_in : (r : ℕ) (ms : List Module) (js : List ℕ) → miss (length ms) js ≤ r → WithinBelow (length ms) (bound_of ms (retained r ms js)) (retained r ms js)
closed_in zero ms js h = λ j l e. miss_none (length ms) js h j l
closed_in (suc r) ms js h = ⊎_elim
    (λ (w : WithinBelow (length ms) (bound_of ms js) js). λ j l e. retained_more (suc r) ms js j (w j l (bound_below ms (retained (suc r) ms js) js (least_below (suc r) ms js js (λ a m b. b) w) j e)))
    (λ x. closed_in r ms (joins (bound_of ms js) js) (omega (arith, h, miss_less (length ms) js (joins (bound_of ms js) js) x.0 x.1 (joins_old (bound_of ms js) js) x.3 (joins_new (bound_of ms js) js x.0 x.2))))
    (within_below_or (length ms) (bound_of ms js) js)

pub closed_below : (k : Links) → WithinBelow (length k.modules) (bound_of k.modules (staying k)) (staying k)
closed_below k = closed_in (length k.modules) k.modules (joins (open_members k.groups) []) (miss_le (length k.modules) (joins (open_members k.groups) []))

-- a number that is in a place is there
has_at : (xs : List ℕ) (i x : ℕ) → slice_get xs i ≡ Some x → has x xs ≡ true
has_at [] i x e = absurd (none-some _ e)
has_at (y ∷ xs) zero x e = has_first x y xs (sym (same_Some _ _ e))
has_at (y ∷ xs) (suc i) x e = has_there x y xs (has_at xs i x e)

take_next : (xs : List ℕ) (i x : ℕ) → slice_get xs i ≡ Some x → take (suc i) xs ≡ take i xs ++ x ∷ []
take_next [] i x e = absurd (none-some _ e)
take_next (y ∷ xs) zero x e = ap (λ z. z ∷ []) (same_Some _ _ e)
take_next (y ∷ xs) (suc i) x e = ap (λ zs. y ∷ zs) (take_next xs i x e)

bound-push : (ms : List Module) (xs : List ℕ) (i j : ℕ) → has j (bound_of ms (xs ++ i ∷ [])) ≡ true → (has j (bound_of ms xs) ≡ true) ⊎ (has j (bound_of_one ms i) ≡ true)
bound-push ms [] i j e = ⊎_elim inr inl (has-append (bound_of_one ms i) [] j e)
bound-push ms (x ∷ xs) i j e = ⊎_elim
    (λ q. inl (left q))
    (λ q. ⊎_elim (λ p. inl (right p)) inr (bound-push ms xs i j q))
    (has-append (bound_of_one ms x) (bound_of ms (xs ++ i ∷ [])) j e)
  where
    left : has j (bound_of_one ms x) ≡ true → has j (bound_of ms (x ∷ xs)) ≡ true
    left q = bound_in ms (x ∷ xs) x j (has_here x xs) q

    right : has j (bound_of ms xs) ≡ true → has j (bound_of ms (x ∷ xs)) ≡ true
    right q = bound_below ms xs (x ∷ xs) (λ a l b. has_there a x xs b) j q

-- how far the set has come: t of its numbers were asked what they are bound to
pub record Grows (k : Links) (t : ℕ) (xs : List ℕ) : Type 0 where
  pub roots : WithinBelow (length k.modules) (open_members k.groups) xs
  pub closed : WithinBelow (length k.modules) (bound_of k.modules (take t xs)) xs
  pub only : WithinBelow (length k.modules) xs (staying k)

pub grows_first : (k : Links) (n t : ℕ) (xs ys : List ℕ) → n ≡ length k.modules → t ≡ 0 → xs ≡ [] → ys ≡ gathered n (open_members k.groups) xs → Grows k t ys
grows_first k n t xs ys e z p q = subst (Grows k t) (sym (q ∙ ap (λ m. gathered m (open_members k.groups) xs) e ∙ ap (gathered (length k.modules) (open_members k.groups)) p)) (subst (λ s. Grows k s first) (sym z) (record {
  roots = gathered_new (length k.modules) (open_members k.groups) [];
  closed = λ j l h. has_none j h;
  only = λ j l h. ⊎_elim (stays_least.roots k j) (has_none j) (gathered_from (length k.modules) (open_members k.groups) [] j h);
}))
  where
    first : List ℕ
    first = gathered (length k.modules) (open_members k.groups) []

pub grows_on : (k : Links) (n t s i : ℕ) (xs ys : List ℕ) → n ≡ length k.modules → s ≡ t + 1 → i < n → slice_get xs t ≡ Some i → ys ≡ gathered n (bound_of_one k.modules i) xs → Grows k t xs → Grows k s ys
grows_on k n t s i xs ys e z b a q g = subst (Grows k s) (sym q) (subst (λ m. Grows k s (gathered m more xs)) (sym e) (subst (λ m. Grows k m next) one (record {
  roots = λ j l h. gathered_old (length k.modules) more xs j (g.roots j l h);
  closed = λ j l h. ⊎_elim (λ p. gathered_old (length k.modules) more xs j (g.closed j l p)) (gathered_new (length k.modules) more xs j l) (bound-push k.modules (take t xs) i j (subst (λ zs. has j (bound_of k.modules zs) ≡ true) asked h));
  only = λ j l h. ⊎_elim (λ p. closed_below k j l (bound_in k.modules (staying k) i j (g.only i (omega arith) (has_at xs t i a)) p)) (g.only j l) (gathered_from (length k.modules) more xs j h);
})))
  where
    one : suc t ≡ s
    one = omega arith

    more : List ℕ
    more = bound_of_one k.modules i

    next : List ℕ
    next = gathered (length k.modules) more xs

    asked : take (suc t) next ≡ take t xs ++ i ∷ []
    asked = gathered_take (length k.modules) (suc t) more xs (omega (arith, slice_get_within xs t i a)) ∙ take_next xs t i a

pub same_bool : (a b : Bool) → (a ≡ true → b ≡ true) → (b ≡ true → a ≡ true) → a ≡ b
same_bool true b f g = sym (f refl)
same_bool false true f g = g refl
same_bool false false f g = refl

-- a place where there is nothing is past the end
past_end : (xs : List ℕ) (t : ℕ) → slice_get xs t ≡ None → length xs ≤ t
past_end xs t e = ⊎_elim (λ l. absurd (none-some _ (sym e ∙ slice_get-get_or xs t 0 l))) (λ l. l) (cases_lt t (length xs))

pub grows_last : (k : Links) (t : ℕ) (xs : List ℕ) → slice_get xs t ≡ None → Grows k t xs → Stays k xs
grows_last k t xs e g j l = same_bool (has j xs) (has j (staying k)) (g.only j l) (least_below (length k.modules) k.modules (joins (open_members k.groups) []) xs first closed j l)
  where
    first : WithinBelow (length k.modules) (joins (open_members k.groups) []) xs
    first i m h = ⊎_elim (g.roots i m) (has_none i) (joins_from (open_members k.groups) [] i h)

    closed : WithinBelow (length k.modules) (bound_of k.modules xs) xs
    closed i m h = g.closed i m (ap (λ zs. has i (bound_of k.modules zs)) (take_all t xs (past_end xs t e)) ∙ h)
