-- The order of initialisation: every library of the closure once, what is needed first but for rings.
use Rattle.std.proofs.lemmas.Option.{same_Some}
use Rattle.std.specs.Prelude.{Some, cond}
use Rattle.std.proofs.Common.{◌≡◌, ℕ, zero, suc, ◌+◌, ◌≤◌, Bool, true, false, ◌||◌, ◌⊎◌, List, [], ◌∷◌, ◌++◌, length, sym, refl, ap, ◌∙◌, subst, inl, inr, ⊎_elim, arith}
use Rattle.base.specs.Names.{Name, same, among, Once}
use Rattle.base.proofs.Choices.{opt_some}
use Rattle.base.proofs.Names.{same_self, once_append}
use Rattle.library.specs.Library.{Library, find_library}
use Rattle.links.specs.Closure.{Task, enter, leave, enters, depth, all_needs, init_order}
use Rattle.links.specs.Laws.{Found}
use Rattle.links.specs.Reach.{Needs, Reaches, itself, further, ClosedFrom, before, InOrder, OrderRight}
use Rattle.links.proofs.Among.{among_here, among_first, among_there, among_cases, among_none, among_left, among_right, among_split, among_not, NamesIn}
use Rattle.links.proofs.Reach.{all_reached, closure_reaches}
use Rattle.links.proofs.Cost.{weight, weigh, weigh_all, weigh_le}
use Rattle.std.proofs.lemmas.List.{length-append}
use Rattle.std.proofs.lemmas.Bool.{cond-true, cond-false, cases_Bool, or_parts}

-- the library that a task is about
abbrev of_task : Task → Name
of_task (enter x) = x
of_task (leave x) = x

-- the libraries that were entered and not left yet
abbrev entered : List Task → List Name
entered [] = []
entered (enter x ∷ ts) = entered ts
entered (leave x ∷ ts) = x ∷ entered ts

-- what an entered library needs was met, or is to be entered before it is left
abbrev Awaits : List Library → List Name → List Task → Type 0
Awaits ls met [] = Unit
Awaits ls met (enter z ∷ ts) = Awaits ls (z ∷ met) ts
Awaits ls met (leave y ∷ ts) = ((z : Name) → Needs ls y z → among z met ≡ true) × Awaits ls met ts

-- each task is reached from the root, and from every library below it that was entered
abbrev Nested : List Library → Name → List Task → Type 0
Nested ls x [] = Unit
Nested ls x (t ∷ ts) = Reaches ls x (of_task t) × ((z : Name) → among z (entered ts) ≡ true → Reaches ls z (of_task t)) × Nested ls x ts

-- what one library weighs in tasks: to leave it, and to enter all that it needs
abbrev tasks_of : Library → ℕ
tasks_of l = suc (length l.needs)

-- the tasks that libraries which weren't seen will make
abbrev ahead : List Library → List Name → List Name → ℕ
ahead ls seen [] = 0
ahead ls seen (y ∷ ys) = cond (among y seen) 0 (weight tasks_of (find_library ls y)) + ahead ls seen ys

-- while it is walked
record Walks (ls : List Library) (x : Name) (ts : List Task) (seen done : List Name) : Type 0 where
  root : among x seen ≡ true
  parted : (y : Name) → among y seen ≡ true → (among y done ≡ true) ⊎ (among y (entered ts) ≡ true)
  done_seen : NamesIn done seen
  entered_seen : NamesIn (entered ts) seen
  done_once : Once done
  entered_once : Once (entered ts)
  apart : (y : Name) → among y (entered ts) ≡ true → among y done ≡ false
  reached : (y : Name) → among y done ≡ true → Reaches ls x y
  nested : Nested ls x ts
  awaits : Awaits ls seen ts
  needs_seen : (y z : Name) → among y done ≡ true → Needs ls y z → among z seen ≡ true
  needs_first : (y z : Name) → among y done ≡ true → Needs ls y z → (among z (before y done) ≡ true) ⊎ Reaches ls z y

awaits_more : (ls : List Library) (met known : List Name) (ts : List Task) → NamesIn met known → Awaits ls met ts → Awaits ls known ts
awaits_more ls met known [] h a = tt
awaits_more ls met known (enter z ∷ ts) h a = awaits_more ls (z ∷ met) (z ∷ known) ts (λ y e. ⊎_elim (among_first y z known) (λ p. among_there y z known (h y p)) (among_cases y z met e)) a
awaits_more ls met known (leave y ∷ ts) h a = ((λ z n. h z (a.0 z n)), awaits_more ls met known ts h a.1)

-- entering all that y needs, then leaving y
awaits_entered : (ls : List Library) (met : List Name) (ws : List Name) (y : Name) (ts : List Task) → ((z : Name) → Needs ls y z → (among z ws ≡ true) ⊎ (among z met ≡ true)) → Awaits ls met ts → Awaits ls met (enters ws ++ (leave y ∷ ts))
awaits_entered ls met [] y ts h a = ((λ z n. ⊎_elim (among_none z) (λ p. p) (h z n)), a)
awaits_entered ls met (w ∷ ws) y ts h a = awaits_entered ls (w ∷ met) ws y ts (λ z n. ⊎_elim (λ p. ⊎_elim (λ q. inr (among_first z w met q)) inl (among_cases z w ws p)) (λ p. inr (among_there z w met p)) (h z n)) (awaits_more ls met (w ∷ met) ts (λ z e. among_there z w met e) a)

entered_enters : (ws : List Name) (ts : List Task) → entered (enters ws ++ ts) ≡ entered ts
entered_enters [] ts = refl
entered_enters (w ∷ ws) ts = entered_enters ws ts

nested_entered : (ls : List Library) (x : Name) (ws : List Name) (y : Name) (ts : List Task) → ((z : Name) → among z ws ≡ true → Needs ls y z) → Nested ls x (enter y ∷ ts) → Nested ls x (enters ws ++ (leave y ∷ ts))
nested_entered ls x [] y ts h r = (r.0, r.1, r.2)
nested_entered ls x (w ∷ ws) y ts h r = (further y w r.0 (h w (among_here w ws)), (λ z e. from z (rw (entered_enters ws (leave y ∷ ts)) at e)), nested_entered ls x ws y ts (λ z e. h z (among_there z w ws e)) r)
  where
    from : (z : Name) → among z (y ∷ entered ts) ≡ true → Reaches ls z w
    from z e = ⊎_elim (λ p. further y w (rw p itself) (h w (among_here w ws))) (λ p. further y w (r.1 z p) (h w (among_here w ws))) (among_cases z y (entered ts) e)

before_self : (y : Name) (xs : List Name) → among y xs ≡ false → before y (xs ++ (y ∷ [])) ≡ xs
before_self y [] e = rw (same_self y)
before_self y (x ∷ xs) e = let p = or_parts (same y x) (among y xs) e in rw p.0 (ap (λ zs. x ∷ zs) (before_self y xs p.1))

before_other : (y w : Name) (xs : List Name) → among y xs ≡ true → before y (xs ++ (w ∷ [])) ≡ before y xs
before_other y w [] e = among_none y e
before_other y w (x ∷ xs) e = go (same y x) e (before_other y w xs)
  where
    go : (b : Bool) → (b || among y xs) ≡ true → (among y xs ≡ true → before y (xs ++ (w ∷ [])) ≡ before y xs) → cond b [] (x ∷ before y (xs ++ (w ∷ []))) ≡ cond b [] (x ∷ before y xs)
    go true q r = refl
    go false q r = ap (λ zs. x ∷ zs) (r q)

module _ (ls : List Library) (x : Name) where
  -- entered before
  skipped : (z : Name) (ts : List Task) (seen done : List Name) → Walks ls x (enter z ∷ ts) seen done → among z seen ≡ true → Walks ls x ts seen done
  skipped z ts seen done r e = record { root = r.root; parted = r.parted; done_seen = r.done_seen; entered_seen = r.entered_seen; done_once = r.done_once; entered_once = r.entered_once; apart = r.apart; reached = r.reached; nested = r.nested.2; awaits = awaits_more ls (z ∷ seen) seen ts (λ y q. ⊎_elim (λ p. rw p e) (λ p. p) (among_cases y z seen q)) r.awaits; needs_seen = r.needs_seen; needs_first = r.needs_first }

  -- left: it's the last in the order so far, and what it needs stands before it or is entered still
  left : (y : Name) (ts : List Task) (seen done : List Name) → Walks ls x (leave y ∷ ts) seen done → Walks ls x ts seen (done ++ (y ∷ []))
  left y ts seen done r = record { root = r.root; parted = parted; done_seen = λ v e. ⊎_elim (r.done_seen v) (λ p. ⊎_elim (λ q. rw q (r.entered_seen y (among_here y (entered ts)))) (among_none v) (among_cases v y [] p)) (among_split v done (y ∷ []) e); entered_seen = λ v e. r.entered_seen v (among_there v y (entered ts) e); done_once = once_append done (y ∷ []) r.done_once (not_done, tt) (refl, tt); entered_once = r.entered_once.1; apart = apart; reached = λ v e. ⊎_elim (r.reached v) (λ p. ⊎_elim (λ q. rw q r.nested.0) (among_none v) (among_cases v y [] p)) (among_split v done (y ∷ []) e); nested = r.nested.2; awaits = r.awaits.1; needs_seen = λ v z e n. ⊎_elim (λ p. r.needs_seen v z p n) (λ p. ⊎_elim (λ q. r.awaits.0 z (rw q at n)) (among_none v) (among_cases v y [] p)) (among_split v done (y ∷ []) e); needs_first = needs_first }
    where
      not_done : among y done ≡ false
      not_done = r.apart y (among_here y (entered ts))

      parted : (v : Name) → among v seen ≡ true → (among v (done ++ (y ∷ [])) ≡ true) ⊎ (among v (entered ts) ≡ true)
      parted v e = ⊎_elim (λ p. inl (among_left v done (y ∷ []) p)) (λ p. ⊎_elim (λ q. inl (among_right v done (y ∷ []) (among_first v y [] q))) inr (among_cases v y (entered ts) p)) (r.parted v e)

      apart : (v : Name) → among v (entered ts) ≡ true → among v (done ++ (y ∷ [])) ≡ false
      apart v e = ⊎_elim (λ p. ⊎_elim (λ q. among_not v done q (r.apart v (among_there v y (entered ts) e))) (λ q. ⊎_elim (λ s. among_not y (entered ts) (rw s at e) r.entered_once.0) (among_none v) (among_cases v y [] q)) (among_split v done (y ∷ []) p)) (λ p. p) (cases_Bool (among v (done ++ (y ∷ []))))

      own : (z : Name) → Needs ls y z → (among z (before y (done ++ (y ∷ []))) ≡ true) ⊎ Reaches ls z y
      own z n = ⊎_elim (λ p. inl (rw (before_self y done not_done) p)) (λ p. inr (⊎_elim (λ q. rw q itself) (r.nested.1 z) (among_cases z y (entered ts) p))) (r.parted z (r.awaits.0 z n))

      needs_first : (v z : Name) → among v (done ++ (y ∷ [])) ≡ true → Needs ls v z → (among z (before v (done ++ (y ∷ []))) ≡ true) ⊎ Reaches ls z v
      needs_first v z e n = ⊎_elim (λ p. rw (before_other v y done p) (r.needs_first v z p n)) (λ p. ⊎_elim (λ q. rw q (own z (rw q at n))) (among_none v) (among_cases v y [] p)) (among_split v done (y ∷ []) e)

  -- entered now: what it needs is entered before it is left
  entering : (z : Name) (l : Library) (ts : List Task) (seen done : List Name) → Walks ls x (enter z ∷ ts) seen done → among z seen ≡ false → find_library ls z ≡ Some l → Walks ls x (enters l.needs ++ (leave z ∷ ts)) (z ∷ seen) done
  entering z l ts seen done r e q = record { root = among_there x z seen r.root; parted = λ v h. subst (λ es. (among v done ≡ true) ⊎ (among v es ≡ true)) (sym same_entered) (parted v h); done_seen = λ v h. among_there v z seen (r.done_seen v h); entered_seen = λ v h. seen_too v (subst (λ es. among v es ≡ true) same_entered h); done_once = r.done_once; entered_once = subst Once (sym same_entered) (fresh (entered ts) r.entered_seen, r.entered_once); apart = λ v h. apart v (subst (λ es. among v es ≡ true) same_entered h); reached = r.reached; nested = nested_entered ls x l.needs z ts (λ w h. (l, q, h)) r.nested; awaits = awaits_entered ls (z ∷ seen) l.needs z ts (λ w n. inl (ap (λ m. among w m.needs) (same_Some _ _ (sym q ∙ n.1)) ∙ n.2)) r.awaits; needs_seen = λ v w h n. among_there w z seen (r.needs_seen v w h n); needs_first = r.needs_first }
    where
      same_entered : entered (enters l.needs ++ (leave z ∷ ts)) ≡ z ∷ entered ts
      same_entered = entered_enters l.needs (leave z ∷ ts)

      fresh : (ys : List Name) → NamesIn ys seen → among z ys ≡ false
      fresh ys h = ⊎_elim (λ p. among_not z seen (h z p) e) (λ p. p) (cases_Bool (among z ys))

      parted : (v : Name) → among v (z ∷ seen) ≡ true → (among v done ≡ true) ⊎ (among v (z ∷ entered ts) ≡ true)
      parted v h = ⊎_elim (λ p. inr (among_first v z (entered ts) p)) (λ p. ⊎_elim inl (λ s. inr (among_there v z (entered ts) s)) (r.parted v p)) (among_cases v z seen h)

      seen_too : NamesIn (z ∷ entered ts) (z ∷ seen)
      seen_too v h = ⊎_elim (among_first v z seen) (λ p. among_there v z seen (r.entered_seen v p)) (among_cases v z (entered ts) h)

      apart : (v : Name) → among v (z ∷ entered ts) ≡ true → among v done ≡ false
      apart v h = ⊎_elim (λ p. rw p (fresh done r.done_seen)) (r.apart v) (among_cases v z (entered ts) h)

  ahead_less : (z : Name) (seen ys : List Name) → ahead ls (z ∷ seen) ys ≤ ahead ls seen ys
  ahead_less z seen [] = omega arith
  ahead_less z seen (y ∷ ys) = go (same y z) (among y seen) (ahead_less z seen ys)
    where
      go : (a b : Bool) → ahead ls (z ∷ seen) ys ≤ ahead ls seen ys → cond (a || b) 0 (weight tasks_of (find_library ls y)) + ahead ls (z ∷ seen) ys ≤ cond b 0 (weight tasks_of (find_library ls y)) + ahead ls seen ys
      go true true h = omega arith
      go true false h = omega arith
      go false true h = omega arith
      go false false h = omega arith

  -- one that is entered takes its tasks away
  ahead_drop : (z : Name) (l : Library) (seen ys : List Name) → find_library ls z ≡ Some l → among z seen ≡ false → among z ys ≡ true → ahead ls (z ∷ seen) ys + tasks_of l ≤ ahead ls seen ys
  ahead_drop z l seen [] q e h = among_none z h
  ahead_drop z l seen (y ∷ ys) q e h = ⊎_elim (λ p. here p (ahead_less z seen ys)) (λ p. there (same y z) (among y seen) (ahead_drop z l seen ys q e p)) (among_cases z y ys h)
    where
      here : z ≡ y → ahead ls (z ∷ seen) ys ≤ ahead ls seen ys → ahead ls (z ∷ seen) (y ∷ ys) + tasks_of l ≤ ahead ls seen (y ∷ ys)
      here p r = subst (λ v. cond (same v z || among v seen) 0 (weight tasks_of (find_library ls v)) + ahead ls (z ∷ seen) ys + tasks_of l ≤ cond (among v seen) 0 (weight tasks_of (find_library ls v)) + ahead ls seen ys) p (rw (same_self z, e, q) (omega arith))

      there : (a b : Bool) → ahead ls (z ∷ seen) ys + tasks_of l ≤ ahead ls seen ys → cond (a || b) 0 (weight tasks_of (find_library ls y)) + ahead ls (z ∷ seen) ys + tasks_of l ≤ cond b 0 (weight tasks_of (find_library ls y)) + ahead ls seen ys
      there true true h = omega arith
      there true false h = omega arith
      there false true h = omega arith
      there false false h = omega arith

  depth_seen : (n : ℕ) (z : Name) (ts : List Task) (seen done : List Name) → among z seen ≡ true → depth (suc n) ls (enter z ∷ ts) seen done ≡ depth n ls ts seen done
  depth_seen n z ts seen done e = cond-true (among z seen) _ _ e

  depth_entered : (n : ℕ) (z : Name) (l : Library) (ts : List Task) (seen done : List Name) → among z seen ≡ false → find_library ls z ≡ Some l → depth (suc n) ls (enter z ∷ ts) seen done ≡ depth n ls (enters l.needs ++ (leave z ∷ ts)) (z ∷ seen) done
  depth_entered n z l ts seen done e q = cond-false (among z seen) _ _ e ∙ ap (λ ws. depth n ls (ws ++ (leave z ∷ ts)) (z ∷ seen) done) (opt_some (find_library ls z) [] (λ l. enters l.needs) l q)

  length_enters : (ws : List Name) → length (enters ws) ≡ length ws
  length_enters [] = refl
  length_enters (w ∷ ws) = ap suc (length_enters ws)

  found_at : (ys : List Name) → Found ls ys → (z : Name) → among z ys ≡ true → (l : Library) × (find_library ls z ≡ Some l)
  found_at [] f z e = among_none z e
  found_at (y ∷ ys) f z e = ⊎_elim (λ p. rw p f.0) (found_at ys f.1 z) (among_cases z y ys e)

  walked : (ys : List Name) → ClosedFrom ls x ys → (n : ℕ) (ts : List Task) (seen done : List Name) → Walks ls x ts seen done → length ts + ahead ls seen ys ≤ n → (last : List Name) × Walks ls x [] last (depth n ls ts seen done)
  walked ys c zero [] seen done r h = (seen, r)
  walked ys c zero (t ∷ ts) seen done r h = absurd (omega arith)
  walked ys c (suc n) [] seen done r h = (seen, r)
  walked ys c (suc n) (leave y ∷ ts) seen done r h = walked ys c n ts seen (done ++ (y ∷ [])) (left y ts seen done r) (omega arith)
  walked ys c (suc n) (enter z ∷ ts) seen done r h = ⊎_elim (λ e. subst (λ d. (last : List Name) × Walks ls x [] last d) (sym (depth_seen n z ts seen done e)) (walked ys c n ts seen done (skipped z ts seen done r e) (omega arith))) (λ e. let z_in = c.each z r.nested.0 in let f = found_at ys c.found z z_in in subst (λ d. (last : List Name) × Walks ls x [] last d) (sym (depth_entered n z f.0 ts seen done e f.1)) (walked ys c n (enters f.0.needs ++ (leave z ∷ ts)) (z ∷ seen) done (entering z f.0 ts seen done r e f.1) (omega (arith, h, ahead_drop z f.0 seen ys f.1 e z_in, length-append (enters f.0.needs) (leave z ∷ ts), length_enters f.0.needs)))) (cases_Bool (among z seen))

  -- the root, entered
  begun : (l : Library) → find_library ls x ≡ Some l → Walks ls x (enters l.needs ++ (leave x ∷ [])) (x ∷ []) []
  begun l e = record { root = among_here x []; parted = λ y h. inr (subst (λ es. among y es ≡ true) (sym same_entered) h); done_seen = λ y h. among_none y h; entered_seen = λ y h. subst (λ es. among y es ≡ true) same_entered h; done_once = tt; entered_once = subst Once (sym same_entered) (refl, tt); apart = λ y h. refl; reached = λ y h. among_none y h; nested = nested_entered ls x l.needs x [] (λ w h. (l, e, h)) (itself, (λ z h. among_none z h), tt); awaits = awaits_entered ls (x ∷ []) l.needs x [] (λ w n. inl (ap (λ m. among w m.needs) (same_Some _ _ (sym e ∙ n.1)) ∙ n.2)) tt; needs_seen = λ y z h n. among_none y h; needs_first = λ y z h n. among_none y h }
    where
      same_entered : entered (enters l.needs ++ (leave x ∷ [])) ≡ x ∷ []
      same_entered = entered_enters l.needs (leave x ∷ [])

  ahead_all : (ys : List Name) → ahead ls [] ys ≡ weigh tasks_of ls ys
  ahead_all [] = refl
  ahead_all (y ∷ ys) = ap (λ n. weight tasks_of (find_library ls y) + n) (ahead_all ys)

  weigh_tasks : (ks : List Library) → weigh_all tasks_of ks ≡ length ks + all_needs ks
  weigh_tasks [] = refl
  weigh_tasks (l ∷ ks) = omega (arith, weigh_tasks ks)

same_test : (a b : Bool) → (a ≡ true → b ≡ true) → (b ≡ true → a ≡ true) → a ≡ b
same_test true b f g = sym (f refl)
same_test false true f g = g refl
same_test false false f g = refl

pub order_right : OrderRight
order_right ls x ys e = subst (InOrder ls ys) (sym first) (record { once = w.1.done_once; same = λ y. same_test (among y order) (among y ys) (λ h. c.each y (w.1.reached y h)) (λ h. in_order y (all_reached ls x w.0 w.1.root closed y (c.only y h))); needs_first = w.1.needs_first })
  where
    c : ClosedFrom ls x ys
    c = closure_reaches.has ls x ys e

    f : (l : Library) × (find_library ls x ≡ Some l)
    f = found_at ls x ys c.found x (c.each x itself)

    n : ℕ
    n = suc (length ls + (length ls + all_needs ls))

    order : List Name
    order = depth n ls (enters f.0.needs ++ (leave x ∷ [])) (x ∷ []) []

    first : init_order ls x ≡ order
    first = ap (λ k. depth k ls (enter x ∷ []) [] []) two ∙ depth_entered ls x n x f.0 [] [] [] refl f.1
      where
        two : 2 + (length ls + (length ls + all_needs ls)) ≡ suc (suc (length ls + (length ls + all_needs ls)))
        two = omega arith

    w : (last : List Name) × Walks ls x [] last order
    w = walked ls x ys c n (enters f.0.needs ++ (leave x ∷ [])) (x ∷ []) [] (begun ls x f.0 f.1) (omega (arith, ahead_drop ls x x f.0 [] ys f.1 refl (c.each x itself), ahead_all ls x ys, weigh_tasks ls x ls, weigh_le tasks_of ls ys c.found c.once, length-append (enters f.0.needs) (leave x ∷ []), length_enters ls x f.0.needs))

    in_order : (y : Name) → among y w.0 ≡ true → among y order ≡ true
    in_order y h = ⊎_elim (λ p. p) (among_none y) (w.1.parted y h)

    closed : (y z : Name) → among y w.0 ≡ true → Needs ls y z → among z w.0 ≡ true
    closed y z h m = w.1.needs_seen y z (in_order y h) m
