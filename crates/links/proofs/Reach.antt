-- A closure has what a library reaches.
use Rattle.std.proofs.lemmas.Option.{none-some, same_Some}
use Rattle.std.specs.Prelude.{None, Option, Some, cond}
use Rattle.std.proofs.Common.{◌≡◌, ℕ, zero, suc, ◌+◌, Bool, true, false, ◌⊎◌, List, [], ◌∷◌, ◌++◌, length, sym, refl, ap, ◌∙◌, inl, inr, ⊎_elim, append_assoc, append-nil, arith}
use Rattle.base.specs.Choices.{on_some}
use Rattle.base.specs.Names.{Name, among, Once, Fresh}
use Rattle.base.proofs.Choices.{on_some_inv}
use Rattle.base.proofs.Names.{once_append}
use Rattle.library.specs.Library.{Library, find_library}
use Rattle.links.specs.Closure.{news, breadth}
use Rattle.links.specs.Laws.{Found}
use Rattle.links.specs.Reach.{Needs, Reaches, itself, further, ClosedFrom, ClosureReaches}
use Rattle.links.proofs.Among.{among_here, among_first, among_there, among_cases, among_none, among_left, among_right, among_split, once_front}
use Rattle.links.proofs.Closure.{news_fresh, found_more}
use Rattle.links.proofs.Cost.{once_count}
use Rattle.std.proofs.lemmas.List.{length_push}

-- a choice that came to none: there was nothing, or nothing followed
pub on_some_none : {A C : Type 0} (o : Option A) (f : A → Option C) → on_some o f ≡ None → (o ≡ None) ⊎ ((a : A) × (o ≡ Some a) × (f a ≡ None))
on_some_none None f e = inl refl
on_some_none (Some a) f e = inr (a, refl, e)

news_all : (z : Name) (xs seen : List Name) → among z xs ≡ true → (among z seen ≡ true) ⊎ (among z (news xs seen) ≡ true)
news_all z [] seen e = among_none z e
news_all z (x ∷ xs) seen e = go (among x seen) refl (news_all z xs seen) (news_all z xs (x ∷ seen)) (among_cases z x xs e)
  where
    go : (b : Bool) → among x seen ≡ b → (among z xs ≡ true → (among z seen ≡ true) ⊎ (among z (news xs seen) ≡ true)) → (among z xs ≡ true → (among z (x ∷ seen) ≡ true) ⊎ (among z (news xs (x ∷ seen)) ≡ true)) → (z ≡ x) ⊎ (among z xs ≡ true) → (among z seen ≡ true) ⊎ (among z (cond b (news xs seen) (x ∷ news xs (x ∷ seen))) ≡ true)
    go true q r s c = ⊎_elim (λ p. inl (rw p q)) r c
    go false q r s c = ⊎_elim (λ p. inr (among_first z x (news xs (x ∷ seen)) p)) (λ p. ⊎_elim (λ h. ⊎_elim (λ k. inr (among_first z x (news xs (x ∷ seen)) k)) inl (among_cases z x seen h)) (λ h. inr (among_there z x (news xs (x ∷ seen)) h)) (s p)) c

news_from : (z : Name) (xs seen : List Name) → among z (news xs seen) ≡ true → among z xs ≡ true
news_from z [] seen e = e
news_from z (x ∷ xs) seen e = go (among x seen) (news_from z xs seen) (news_from z xs (x ∷ seen)) e
  where
    go : (b : Bool) → (among z (news xs seen) ≡ true → among z xs ≡ true) → (among z (news xs (x ∷ seen)) ≡ true → among z xs ≡ true) → among z (cond b (news xs seen) (x ∷ news xs (x ∷ seen))) ≡ true → among z (x ∷ xs) ≡ true
    go true r s q = among_there z x xs (r q)
    go false r s q = ⊎_elim (among_first z x xs) (λ p. among_there z x xs (s p)) (among_cases z x (news xs (x ∷ seen)) q)

-- while it spreads: what was taken from the queue is of the text, and all that it needs was seen
record Spreads (ls : List Library) (x : Name) (done queue seen : List Name) : Type 0 where
  split : seen ≡ done ++ queue
  once : Once seen
  found : Found ls done
  root : among x seen ≡ true
  reached : (y : Name) → among y seen ≡ true → Reaches ls x y
  closed : (y z : Name) → among y done ≡ true → Needs ls y z → among z seen ≡ true

module _ (ls : List Library) (x : Name) where
  start : Spreads ls x [] (x ∷ []) (x ∷ [])
  start = record { split = refl; once = (refl, tt); found = tt; root = among_here x []; reached = λ y e. ⊎_elim (λ q. rw q itself) (among_none y) (among_cases y x [] e); closed = λ y z e n. among_none y e }

  taken : (done queue seen : List Name) (q : Name) (l : Library) → Spreads ls x done (q ∷ queue) seen → find_library ls q ≡ Some l → Spreads ls x (done ++ (q ∷ [])) (queue ++ news l.needs seen) (seen ++ news l.needs seen)
  taken done queue seen q l r e = record { split = ap (λ z. z ++ added) r.split ∙ simp append_assoc; once = once_append seen added r.once fresh.0 fresh.1; found = found_more ls done q l r.found e; root = among_left x seen added r.root; reached = λ y h. ⊎_elim (r.reached y) (λ p. further q y (r.reached q q_seen) (l, e, news_from y l.needs seen p)) (among_split y seen added h); closed = closed }
    where
      added : List Name
      added = news l.needs seen

      fresh : Fresh (news l.needs seen) seen × Once (news l.needs seen)
      fresh = news_fresh l.needs seen

      q_seen : among q seen ≡ true
      q_seen = rw r.split (among_right q done (q ∷ queue) (among_here q queue))

      own : (z : Name) → Needs ls q z → among z (seen ++ added) ≡ true
      own z n = let same : n.0 ≡ l = same_Some _ _ (sym n.1 ∙ e) in ⊎_elim (among_left z seen added) (among_right z seen added) (news_all z l.needs seen (rw same at n.2))

      closed : (y z : Name) → among y (done ++ (q ∷ [])) ≡ true → Needs ls y z → among z (seen ++ added) ≡ true
      closed y z h n = ⊎_elim (λ p. among_left z seen added (r.closed y z p n)) (λ p. ⊎_elim (λ s. own z (rw s at n)) (among_none y) (among_cases y q [] p)) (among_split y done (q ∷ []) h)

  pub all_reached : (seen : List Name) → among x seen ≡ true → ((y z : Name) → among y seen ≡ true → Needs ls y z → among z seen ≡ true) → (y : Name) → Reaches ls x y → among y seen ≡ true
  all_reached seen e c y itself = e
  all_reached seen e c y (further v w p n) = c v w (all_reached seen e c v p) n

  through : (n : ℕ) (done queue seen ys : List Name) → Spreads ls x done queue seen → breadth n ls queue seen ≡ Some ys → ClosedFrom ls x ys
  through n done [] seen ys r e = rw (← same_Some _ _ e) (record { once = r.once; found = rw same r.found; each = all_reached seen r.root (λ y z h. r.closed y z (rw same at h)); only = r.reached })
    where
      same : seen ≡ done
      same = r.split ∙ append-nil done
  through zero done (q ∷ queue) seen ys r e = absurd (none-some _ e)
  through (suc n) done (q ∷ queue) seen ys r e = let t = on_some_inv (find_library ls q) _ ys e in through n (done ++ (q ∷ [])) (queue ++ news t.0.needs seen) (seen ++ news t.0.needs seen) ys (taken done queue seen q t.0 r t.1) t.2

  stuck : (n : ℕ) (done queue seen : List Name) → Spreads ls x done queue seen → length done + n ≡ suc (length ls) → breadth n ls queue seen ≡ None → (y : Name) × Reaches ls x y × (find_library ls y ≡ None)
  stuck n done [] seen r h e = absurd (none-some _ (sym e))
  stuck zero done (q ∷ queue) seen r h e = let c = once_count ls done r.found (once_front done (q ∷ queue) (rw r.split at r.once)) in absurd (omega arith)
  stuck (suc n) done (q ∷ queue) seen r h e = ⊎_elim (λ p. (q, r.reached q (rw r.split (among_right q done (q ∷ queue) (among_here q queue))), p)) (λ t. stuck n (done ++ (q ∷ [])) (queue ++ news t.0.needs seen) (seen ++ news t.0.needs seen) (taken done queue seen q t.0 r t.1) (omega (arith, h, length_push done q)) t.2) (on_some_none (find_library ls q) _ e)

pub closure_reaches : ClosureReaches
closure_reaches = record { has = λ ls x ys e. through ls x (suc (length ls)) [] (x ∷ []) (x ∷ []) ys (start ls x) e; misses = λ ls x e. stuck ls x (suc (length ls)) [] (x ∷ []) (x ∷ []) (start ls x) (omega arith) e }
