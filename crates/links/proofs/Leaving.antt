-- A set grown by a loop tells what leaves.
use Rattle.std.specs.Prelude.{cond, filter, is_some}
use Rattle.std.proofs.Common.{◌≡◌, ℕ, zero, suc, Bool, true, false, not, ◌&&◌, eqb, ◌⊎◌, List, [], ◌∷◌, ◌++◌, length, sym, refl, ap, subst, inl, inr, ⊎_elim, arith}
use Rattle.base.specs.Choices.{opt}
use Rattle.base.specs.Lists.{has, Within}
use Rattle.base.proofs.Sets.{has_here, has_there}
use Rattle.links.specs.Links.{Module}
use Rattle.links.specs.Scope.{live_at}
use Rattle.links.specs.Close.{joins, open_members, hosts, bound_of, retained}
use Rattle.links.specs.Laws.{LeavingBySet, RetainsMore}
use Rattle.links.proofs.Retained.{retained_closed}
use Rattle.links.proofs.Linked.{keeps_linked}
use Rattle.std.proofs.lemmas.Bool.{eqb-true, or_cases, or_left}

pub joins_from : (xs seen : List ℕ) (j : ℕ) → has j (joins xs seen) ≡ true → (has j xs ≡ true) ⊎ (has j seen ≡ true)
joins_from [] seen j e = inr e
joins_from (x ∷ xs) seen j e = go (has x seen) e (joins_from xs seen j) (joins_from xs (x ∷ seen) j)
  where
    go : (b : Bool) → has j (joins xs (cond b seen (x ∷ seen))) ≡ true → (has j (joins xs seen) ≡ true → (has j xs ≡ true) ⊎ (has j seen ≡ true)) → (has j (joins xs (x ∷ seen)) ≡ true → (has j xs ≡ true) ⊎ (has j (x ∷ seen) ≡ true)) → (has j (x ∷ xs) ≡ true) ⊎ (has j seen ≡ true)
    go true e r s = ⊎_elim (λ q. inl (has_there j x xs q)) inr (r e)
    go false e r s = ⊎_elim (λ q. inl (has_there j x xs q)) (λ q. ⊎_elim (λ p. inl (or_left (eqb j x) (has j xs) p)) inr (or_cases (eqb j x) (has j seen) q)) (s e)

pub has-append : (xs ys : List ℕ) (j : ℕ) → has j (xs ++ ys) ≡ true → (has j xs ≡ true) ⊎ (has j ys ≡ true)
has-append [] ys j e = inr e
has-append (x ∷ xs) ys j e = ⊎_elim (λ q. inl (or_left (eqb j x) (has j xs) q)) (λ q. ⊎_elim (λ p. inl (has_there j x xs p)) inr (has-append xs ys j q)) (or_cases (eqb j x) (has j (xs ++ ys)) e)

pub has_left : (xs ys : List ℕ) (j : ℕ) → has j xs ≡ true → has j (xs ++ ys) ≡ true
has_left [] ys j e = let z : ◌≡◌ {A = ℕ} 0 1 = cc in absurd (omega arith)
has_left (x ∷ xs) ys j e = ⊎_elim (λ q. or_left (eqb j x) (has j (xs ++ ys)) q) (λ q. has_there j x (xs ++ ys) (has_left xs ys j q)) (or_cases (eqb j x) (has j xs) e)

pub has_right : (xs ys : List ℕ) (j : ℕ) → has j ys ≡ true → has j (xs ++ ys) ≡ true
has_right [] ys j e = e
has_right (x ∷ xs) ys j e = has_there j x (xs ++ ys) (has_right xs ys j e)

-- what a member is bound to is among what all are bound to
pub bound_in : (ms : List Module) (s : List ℕ) (i j : ℕ) → has i s ≡ true → has j (opt (live_at ms i) [] (λ x. hosts x.bound)) ≡ true → has j (bound_of ms s) ≡ true
bound_in ms [] i j e h = let z : ◌≡◌ {A = ℕ} 0 1 = cc in absurd (omega arith)
bound_in ms (k ∷ s) i j e h = ⊎_elim (λ q. has_left (opt (live_at ms k) [] (λ x. hosts x.bound)) (bound_of ms s) j (subst (λ n. has j (opt (live_at ms n) [] (λ x. hosts x.bound)) ≡ true) (eqb-true i k q) h)) (λ q. has_right (opt (live_at ms k) [] (λ x. hosts x.bound)) (bound_of ms s) j (bound_in ms s i j q h)) (or_cases (eqb i k) (has i s) e)

bound_mono : (ms : List Module) (js s : List ℕ) → Within js s → Within (bound_of ms js) (bound_of ms s)
bound_mono ms [] s h j e = let z : ◌≡◌ {A = ℕ} 0 1 = cc in absurd (omega arith)
bound_mono ms (i ∷ js) s h j e = ⊎_elim (λ q. bound_in ms s i j (h i (has_here i js)) q) (λ q. bound_mono ms js s (λ a b. h a (has_there a i js b)) j q) (has-append (opt (live_at ms i) [] (λ x. hosts x.bound)) (bound_of ms js) j e)

-- nothing is retained but what a closed set has
pub retained_least : (n : ℕ) (ms : List Module) (js s : List ℕ) → Within js s → Within (bound_of ms s) s → Within (retained n ms js) s
retained_least zero ms js s h c = h
retained_least (suc n) ms js s h c = retained_least n ms (joins (bound_of ms js) js) s (λ j e. ⊎_elim (λ q. c j (bound_mono ms js s h j q)) (h j) (joins_from (bound_of ms js) js j e)) c

same_bool : (a b : Bool) → (a ≡ true → b ≡ true) → (b ≡ true → a ≡ true) → a ≡ b
same_bool true b f g = sym (f refl)
same_bool false true f g = g refl
same_bool false false f g = refl

keep_same : {A : Type 0} (f g : A → Bool) (xs : List A) → ((x : A) → f x ≡ g x) → filter f xs ≡ filter g xs
keep_same f g [] h = refl
keep_same f g (x ∷ xs) h = λ i. cond (h x i) (x ∷ keep_same f g xs h i) (keep_same f g xs h i)

pub leaving_by_set : LeavingBySet
leaving_by_set k s r = keep_same _ _ k.order (λ j. ap (λ b. is_some (live_at k.modules j) && not b) (same_bool (has j kept) (has j s) (retained_least (length k.modules) k.modules (joins (open_members k.groups) []) s first r.closed j) (r.only j)))
  where
    kept : List ℕ
    kept = retained (length k.modules) k.modules (joins (open_members k.groups) [])

    first : Within (joins (open_members k.groups) []) s
    first j e = ⊎_elim (r.roots j) (λ q. let z : ◌≡◌ {A = ℕ} 0 1 = cc in absurd (omega arith)) (joins_from (open_members k.groups) [] j e)

pub retains_more : RetainsMore
retains_more k s i x l h e q j b = retained_closed k.modules (joins (open_members k.groups) []) (keeps_linked.sound k l) j (bound_in k.modules (retained (length k.modules) k.modules (joins (open_members k.groups) [])) i j (h i e) (rw q b))
