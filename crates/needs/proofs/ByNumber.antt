-- The closure by names is the closure by numbers.
use Rattle.std.specs.Prelude.{Bool, true, false, ◌||◌, None, Option, Some, cond, slice_get}
use Rattle.std.specs.Option.{option_map}
use Rattle.std.specs.List.{AllByRecursion}
use Rattle.std.proofs.Common.{◌≡◌, ℕ, zero, suc, ◌+◌, ◌≤◌, ◌⊎◌, inl, inr, ⊎_elim, List, [], ◌∷◌, ◌++◌, map, length, drop, sym, refl, ap, ◌∙◌, subst, append_assoc, arith}
use Rattle.std.proofs.ByRecursion.{All-append, All-push}
use Rattle.std.proofs.lemmas.Bool.{cases_Bool, cases_eq, eq-eqb, ne_eqb, or_right, or_left}
use Rattle.std.proofs.lemmas.List.{length-map, map-append, append-nil, drop-append-le}
use Rattle.std.proofs.lemmas.Option.{same_Some, none-some, slice_get_within}
use Rattle.base.proofs.Lists.{all_slice_get}
use Rattle.base.specs.Choices.{opt, on_some}
use Rattle.base.specs.Lists.{has}
use Rattle.base.specs.Names.{Name, same, among, Once}
use Rattle.base.proofs.Names.{same_is, same_self, once_append}
use Rattle.library.specs.Library.{Library, find_library}
use Rattle.libraries.specs.Looks.{number_of}
use Rattle.links.specs.Closure.{news, breadth, closure}
use Rattle.links.specs.Laws.{Found}
use Rattle.links.proofs.Closure.{news_fresh}
use Rattle.links.proofs.Cost.{once_count}
use Rattle.needs.specs.Standing.{First, Alike}
use Rattle.needs.specs.Numbered.{needed, fold_some, joined_some, reach, closure_numbers, name_at, ClosureByNumber}

-- the library that a name finds, and its number
pub number_is : (ls : List Library) (x : Name) (k : ℕ) → number_of ls x ≡ Some k → (l : Library) × (slice_get ls k ≡ Some l) × (find_library ls x ≡ Some l) × (l.name ≡ x)
number_is [] x k e = absurd (none-some _ e)
number_is (l ∷ ls) x k e = go (same l.name x) refl (number_of ls x) (number_is ls x) e
  where
    go : (b : Bool) → same l.name x ≡ b → (o : Option ℕ) → ((j : ℕ) → o ≡ Some j → (m : Library) × (slice_get ls j ≡ Some m) × (find_library ls x ≡ Some m) × (m.name ≡ x)) → cond b (Some 0) (option_map suc o) ≡ Some k → (m : Library) × (slice_get (l ∷ ls) k ≡ Some m) × (cond b (Some l) (find_library ls x) ≡ Some m) × (m.name ≡ x)
    go true q o h p = let z : 0 ≡ k = same_Some _ _ p in (l, ap (slice_get (l ∷ ls)) (sym z), refl, same_is l.name x q)
    go false q None h p = absurd (none-some _ p)
    go false q (Some j) h p = let z : suc j ≡ k = same_Some _ _ p in let m = h j refl in (m.0, ap (slice_get (l ∷ ls)) (sym z) ∙ m.1, m.2, m.3)

pub number_none : (ls : List Library) (x : Name) → number_of ls x ≡ None → find_library ls x ≡ None
number_none [] x e = refl
number_none (l ∷ ls) x e = go (same l.name x) (number_of ls x) (number_none ls x) e
  where
    go : (b : Bool) (o : Option ℕ) → (o ≡ None → find_library ls x ≡ None) → cond b (Some 0) (option_map suc o) ≡ None → cond b (Some l) (find_library ls x) ≡ None
    go true o h p = absurd (none-some _ (sym p))
    go false None h p = h refl
    go false (Some j) h p = absurd (none-some _ (sym p))

pub number_name : (ls : List Library) (x : Name) (k : ℕ) → number_of ls x ≡ Some k → name_at ls k ≡ x
number_name ls x k e = let n = number_is ls x k e in ap (λ o. opt o [] (λ l. l.name)) n.1 ∙ n.3

pub number_first : (ls : List Library) (x : Name) (k : ℕ) → number_of ls x ≡ Some k → First ls k
number_first ls x k e = ap (number_of ls) (number_name ls x k e) ∙ e

-- a name is among names of first libraries where its number is among theirs
pub has_among : (ls : List Library) (x : Name) (j : ℕ) (xs : List ℕ) → number_of ls x ≡ Some j → AllByRecursion (First ls) xs → has j xs ≡ among x (map (name_at ls) xs)
has_among ls x j [] e f = refl
has_among ls x j (k ∷ xs) e f = ⊎_elim
    (λ (q : j ≡ k). let n : name_at ls k ≡ x = ap (name_at ls) (sym q) ∙ number_name ls x j e in
    ap (λ b. b || has j xs) (eq-eqb j k q) ∙ sym (ap (λ y. same x y || among x (map (name_at ls) xs)) n ∙ ap (λ b. b || among x (map (name_at ls) xs)) (same_self x)))
    (λ (q : j ≡ k → ⊥). ap (λ b. b || has j xs) (ne_eqb j k q) ∙ has_among ls x j xs e f.1 ∙ sym (ap (λ b. b || among x (map (name_at ls) xs)) (apart q (same x (name_at ls k)) refl)))
    (cases_eq j k)
  where
    apart : (j ≡ k → ⊥) → (b : Bool) → same x (name_at ls k) ≡ b → same x (name_at ls k) ≡ false
    apart q true s = absurd (q (same_Some _ _ (sym e ∙ ap (number_of ls) (same_is x (name_at ls k) s) ∙ f.0)))
    apart q false s = s

-- a name without a number is among none
pub missing_among : (ls : List Library) (x : Name) (xs : List ℕ) → number_of ls x ≡ None → AllByRecursion (First ls) xs → among x (map (name_at ls) xs) ≡ false
missing_among ls x [] e f = refl
missing_among ls x (k ∷ xs) e f = ap (λ b. b || among x (map (name_at ls) xs)) (apart (same x (name_at ls k)) refl) ∙ missing_among ls x xs e f.1
  where
    apart : (b : Bool) → same x (name_at ls k) ≡ b → same x (name_at ls k) ≡ false
    apart true s = absurd (none-some _ (sym e ∙ ap (number_of ls) (same_is x (name_at ls k) s) ∙ f.0))
    apart false s = s

-- what needs come to: numbers behind the others, or one is missing
abbrev Gathered : List Library → List Name → List ℕ → List Name → Type 0
Gathered ls ns xs seen = (zs : List ℕ) × (fold_some joined_some (map (number_of ls) ns) xs ≡ Some (xs ++ zs)) × (map (name_at ls) zs ≡ news ns seen) × AllByRecursion (First ls) zs

abbrev Lacks : List Library → List Name → List ℕ → List Name → Type 0
Lacks ls ns xs seen = (y : Name) × (fold_some joined_some (map (number_of ls) ns) xs ≡ None) × (number_of ls y ≡ None) × (among y (news ns seen) ≡ true)

or_swap : (a b c : Bool) → a || (b || c) ≡ b || (a || c)
or_swap true true c = refl
or_swap true false c = refl
or_swap false b c = refl

or_none : (a : Bool) → a || false ≡ a
or_none true = refl
or_none false = refl

among-push : (ls : List Library) (y : Name) (j : ℕ) (xs : List ℕ) → among y (map (name_at ls) (xs ++ j ∷ [])) ≡ same y (name_at ls j) || among y (map (name_at ls) xs)
among-push ls y j [] = refl
among-push ls y j (k ∷ xs) = ap (λ b. same y (name_at ls k) || b) (among-push ls y j xs) ∙ or_swap (same y (name_at ls k)) (same y (name_at ls j)) (among y (map (name_at ls) xs))

pub alike_push : (ls : List Library) (x : Name) (j : ℕ) (xs : List ℕ) (seen : List Name) → number_of ls x ≡ Some j → Alike ls xs seen → Alike ls (xs ++ j ∷ []) (x ∷ seen)
alike_push ls x j xs seen e a y = ap (λ b. same y x || b) (a y) ∙ ap (λ z. same y z || among y (map (name_at ls) xs)) (sym (number_name ls x j e)) ∙ sym (among-push ls y j xs)

gather : (ls : List Library) (ns : List Name) (xs : List ℕ) (seen : List Name) → AllByRecursion (First ls) xs → Alike ls xs seen → Gathered ls ns xs seen ⊎ Lacks ls ns xs seen
gather ls [] xs seen f a = inl ([], ap Some (sym (append-nil xs)), refl, tt)
gather ls (x ∷ ns) xs seen f a = go (number_of ls x) refl (gather ls ns xs seen f a) (λ j e. gather ls ns (xs ++ j ∷ []) (x ∷ seen) (All-push (First ls) xs j f (number_first ls x j e)) (alike_push ls x j xs seen e a))
  where
    -- the name was seen already
    old : (j : ℕ) → number_of ls x ≡ Some j → has j xs ≡ true → among x seen ≡ true → Gathered ls ns xs seen ⊎ Lacks ls ns xs seen → Gathered ls (x ∷ ns) xs seen ⊎ Lacks ls (x ∷ ns) xs seen
    old j e h s r =
        let step : fold_some joined_some (map (number_of ls) (x ∷ ns)) xs ≡ fold_some joined_some (map (number_of ls) ns) xs =
        ap (λ o. on_some (joined_some xs o) (fold_some joined_some (map (number_of ls) ns))) e ∙ ap (λ b. fold_some joined_some (map (number_of ls) ns) (cond b xs (xs ++ j ∷ []))) h in
        let same_news : news (x ∷ ns) seen ≡ news ns seen = ap (λ b. cond b (news ns seen) (x ∷ news ns (x ∷ seen))) s in
        ⊎_elim
        (λ (g : Gathered ls ns xs seen). inl (g.0, step ∙ g.1, g.2 ∙ sym same_news, g.3))
        (λ (m : Lacks ls ns xs seen). inr (m.0, step ∙ m.1, m.2, ap (among m.0) same_news ∙ m.3)) r

    -- the name is new
    new : (j : ℕ) → number_of ls x ≡ Some j → has j xs ≡ false → among x seen ≡ false → Gathered ls ns (xs ++ j ∷ []) (x ∷ seen) ⊎ Lacks ls ns (xs ++ j ∷ []) (x ∷ seen) → Gathered ls (x ∷ ns) xs seen ⊎ Lacks ls (x ∷ ns) xs seen
    new j e h s r =
        let step : fold_some joined_some (map (number_of ls) (x ∷ ns)) xs ≡ fold_some joined_some (map (number_of ls) ns) (xs ++ j ∷ []) =
        ap (λ o. on_some (joined_some xs o) (fold_some joined_some (map (number_of ls) ns))) e ∙ ap (λ b. fold_some joined_some (map (number_of ls) ns) (cond b xs (xs ++ j ∷ []))) h in
        let more_news : news (x ∷ ns) seen ≡ x ∷ news ns (x ∷ seen) = ap (λ b. cond b (news ns seen) (x ∷ news ns (x ∷ seen))) s in
        ⊎_elim
        (λ (g : Gathered ls ns (xs ++ j ∷ []) (x ∷ seen)). inl (j ∷ g.0, step ∙ g.1 ∙ ap Some (append_assoc xs (j ∷ []) g.0), (λ i. number_name ls x j e i ∷ g.2 i) ∙ sym more_news, (number_first ls x j e, g.3)))
        (λ (m : Lacks ls ns (xs ++ j ∷ []) (x ∷ seen)). inr (m.0, step ∙ m.1, m.2, ap (among m.0) more_news ∙ or_right (same m.0 x) (among m.0 (news ns (x ∷ seen))) m.3)) r

    go : (o : Option ℕ) → number_of ls x ≡ o → Gathered ls ns xs seen ⊎ Lacks ls ns xs seen → ((j : ℕ) → number_of ls x ≡ Some j → Gathered ls ns (xs ++ j ∷ []) (x ∷ seen) ⊎ Lacks ls ns (xs ++ j ∷ []) (x ∷ seen)) → Gathered ls (x ∷ ns) xs seen ⊎ Lacks ls (x ∷ ns) xs seen
    go None e r s =
        let out : among x seen ≡ false = a x ∙ missing_among ls x xs e f in
        inr (x, ap (λ o. on_some (joined_some xs o) (fold_some joined_some (map (number_of ls) ns))) e, e, ap (λ b. among x (cond b (news ns seen) (x ∷ news ns (x ∷ seen)))) out ∙ or_left (same x x) (among x (news ns (x ∷ seen))) (same_self x))
    go (Some j) e r s = ⊎_elim
        (λ (h : has j xs ≡ true). old j e h (a x ∙ sym (has_among ls x j xs e f) ∙ h) r)
        (λ (h : has j xs ≡ false). new j e h (a x ∙ sym (has_among ls x j xs e f) ∙ h) (s j e))
        (cases_Bool (has j xs))

among-append : (y : Name) (xs ys : List Name) → among y (xs ++ ys) ≡ among y xs || among y ys
among-append y [] ys = refl
among-append y (x ∷ xs) ys = ap (λ b. same y x || b) (among-append y xs ys) ∙ sym (or_assoc (same y x) (among y xs) (among y ys))
  where
    or_assoc : (a b c : Bool) → (a || b) || c ≡ a || (b || c)
    or_assoc true b c = refl
    or_assoc false b c = refl

-- a queue with a name that no library has comes to nothing
lost : (ls : List Library) (y : Name) → find_library ls y ≡ None → (n : ℕ) (xs seen : List Name) → among y xs ≡ true → breadth n ls xs seen ≡ None
lost ls y e n [] seen h = let z : ◌≡◌ {A = ℕ} 0 1 = cc in absurd (omega arith)
lost ls y e zero (x ∷ xs) seen h = refl
lost ls y e (suc n) (x ∷ xs) seen h = go (find_library ls x) refl (λ l q. lost ls y e n (xs ++ news l.needs seen) (seen ++ news l.needs seen) (among-append y xs (news l.needs seen) ∙ or_left (among y xs) (among y (news l.needs seen)) q))
  where
    behind : (l : Library) → find_library ls x ≡ Some l → (b : Bool) → same y x ≡ b → b || among y xs ≡ true → among y xs ≡ true
    behind l q true s r = absurd (none-some _ (sym e ∙ ap (find_library ls) (same_is y x s) ∙ q))
    behind l q false s r = r

    go : (o : Option Library) → find_library ls x ≡ o → ((l : Library) → among y xs ≡ true → breadth n ls (xs ++ news l.needs seen) (seen ++ news l.needs seen) ≡ None) → on_some o (λ l. breadth n ls (xs ++ news l.needs seen) (seen ++ news l.needs seen)) ≡ None
    go None q f = refl
    go (Some l) q f = f l (behind l q (same y x) refl h)

-- first libraries are libraries of the text
found_all : (ls : List Library) (xs : List ℕ) → AllByRecursion (First ls) xs → Found ls (map (name_at ls) xs)
found_all ls [] f = tt
found_all ls (k ∷ xs) f = let n = number_is ls (name_at ls k) k f.0 in ((n.0, n.2), found_all ls xs f.1)

pub taken_drop : {X : Type 0} (xs : List X) (h : ℕ) (x : X) → slice_get xs h ≡ Some x → drop h xs ≡ x ∷ drop (h + 1) xs
taken_drop [] h x e = absurd (none-some _ e)
taken_drop (y ∷ ys) zero x e = ap (λ z. z ∷ ys) (same_Some _ _ e)
taken_drop (y ∷ ys) (suc h) x e = let q : suc h + 1 ≡ suc (h + 1) = omega arith in rw q (taken_drop ys h x e)

pub drop_past : {X : Type 0} (xs : List X) (h : ℕ) → slice_get xs h ≡ None → drop h xs ≡ []
drop_past [] zero e = refl
drop_past [] (suc h) e = refl
drop_past (y ∷ ys) zero e = absurd (none-some _ (sym e))
drop_past (y ∷ ys) (suc h) e = drop_past ys h e

pub alike_self : (ls : List Library) (xs : List ℕ) → Alike ls xs (map (name_at ls) xs)
alike_self ls xs y = refl

-- no more are gathered than the text has
few : (ls : List Library) (xs : List ℕ) → AllByRecursion (First ls) xs → Once (map (name_at ls) xs) → length xs ≤ length ls
few ls xs f o = omega (arith, once_count ls (map (name_at ls) xs) (found_all ls xs f) o, length-map xs (name_at ls))

-- nothing is left in the queue
queue_end : (ls : List Library) (n m h : ℕ) (xs : List ℕ) → slice_get xs h ≡ None → breadth (suc n) ls (map (name_at ls) (drop h xs)) (map (name_at ls) xs) ≡ option_map (map (name_at ls)) (reach m (needed ls) h xs)
queue_end ls n m h xs e = ap (λ q. breadth (suc n) ls (map (name_at ls) q) (map (name_at ls) xs)) (drop_past xs h e) ∙ sym (ap (option_map (map (name_at ls))) (reached m))
  where
    reached : (m : ℕ) → reach m (needed ls) h xs ≡ Some xs
    reached zero = refl
    reached (suc k) = ap (λ o. opt o (Some xs) (λ j. on_some (fold_some joined_some (needed ls j) xs) (reach k (needed ls) (h + 1)))) e

-- the next in the queue, by name and by number
breadth_next : (ls : List Library) (n h j : ℕ) (xs : List ℕ) (m : Library) → slice_get xs h ≡ Some j → find_library ls (name_at ls j) ≡ Some m → breadth (suc (suc n)) ls (map (name_at ls) (drop h xs)) (map (name_at ls) xs) ≡ breadth (suc n) ls (map (name_at ls) (drop (h + 1) xs) ++ news m.needs (map (name_at ls) xs)) (map (name_at ls) xs ++ news m.needs (map (name_at ls) xs))
breadth_next ls n h j xs m e g =
    ap (λ q. breadth (suc (suc n)) ls (map (name_at ls) q) (map (name_at ls) xs)) (taken_drop xs h j e)
    ∙ ap (λ o. on_some o (λ l. breadth (suc n) ls (map (name_at ls) (drop (h + 1) xs) ++ news l.needs (map (name_at ls) xs)) (map (name_at ls) xs ++ news l.needs (map (name_at ls) xs)))) g

reach_next : (ls : List Library) (n h j : ℕ) (xs : List ℕ) (m : Library) → slice_get xs h ≡ Some j → slice_get ls j ≡ Some m → reach (suc n) (needed ls) h xs ≡ on_some (fold_some joined_some (map (number_of ls) m.needs) xs) (reach n (needed ls) (h + 1))
reach_next ls n h j xs m e g =
    ap (λ o. opt o (Some xs) (λ j. on_some (fold_some joined_some (needed ls j) xs) (reach n (needed ls) (h + 1)))) e
    ∙ ap (λ o. on_some (fold_some joined_some (opt o [] (λ l. map (number_of ls) l.needs)) xs) (reach n (needed ls) (h + 1))) g

-- from the h-th on
breadth_is : (ls : List Library) (n h : ℕ) (xs : List ℕ) → AllByRecursion (First ls) xs → Once (map (name_at ls) xs) → length ls ≡ n + h → breadth (suc n) ls (map (name_at ls) (drop h xs)) (map (name_at ls) xs) ≡ option_map (map (name_at ls)) (reach n (needed ls) h xs)
breadth_is ls zero h xs f o l = go (slice_get xs h) refl
  where
    go : (o : Option ℕ) → slice_get xs h ≡ o → breadth 1 ls (map (name_at ls) (drop h xs)) (map (name_at ls) xs) ≡ option_map (map (name_at ls)) (Some xs)
    go None e = queue_end ls 0 0 h xs e
    go (Some j) e = let w = slice_get_within xs h j e in let p = few ls xs f o in absurd (omega arith)
breadth_is ls (suc n) h xs f o l = go (slice_get xs h) refl (λ ys. breadth_is ls n (h + 1) ys)
  where
    whole : (m : Library) (j : ℕ) → slice_get xs h ≡ Some j → slice_get ls j ≡ Some m → find_library ls (name_at ls j) ≡ Some m → Gathered ls m.needs xs (map (name_at ls) xs) → ((ys : List ℕ) → AllByRecursion (First ls) ys → Once (map (name_at ls) ys) → length ls ≡ n + (h + 1) → breadth (suc n) ls (map (name_at ls) (drop (h + 1) ys)) (map (name_at ls) ys) ≡ option_map (map (name_at ls)) (reach n (needed ls) (h + 1) ys)) → breadth (suc (suc n)) ls (map (name_at ls) (drop h xs)) (map (name_at ls) xs) ≡ option_map (map (name_at ls)) (reach (suc n) (needed ls) h xs)
    whole m j e p q g r =
        let w = slice_get_within xs h j e in
        let both = map-append (name_at ls) xs g.0 ∙ ap (λ v. map (name_at ls) xs ++ v) g.2 in
        let queue = ap (map (name_at ls)) (drop-append-le (h + 1) xs g.0 (omega arith)) ∙ map-append (name_at ls) (drop (h + 1) xs) g.0 ∙ ap (λ v. map (name_at ls) (drop (h + 1) xs) ++ v) g.2 in
        let fresh = news_fresh m.needs (map (name_at ls) xs) in
        let P : List Name → Type 0 = Once in
        let once = subst P (sym both) (once_append (map (name_at ls) xs) (news m.needs (map (name_at ls) xs)) o fresh.0 fresh.1) in
        breadth_next ls n h j xs m e q
        ∙ (λ i. breadth (suc n) ls (sym queue i) (sym both i))
        ∙ r (xs ++ g.0) (All-append (First ls) xs g.0 f g.3) once (omega arith)
        ∙ sym (ap (option_map (map (name_at ls))) (reach_next ls n h j xs m e p ∙ ap (λ v. on_some v (reach n (needed ls) (h + 1))) g.1))

    lacking : (m : Library) (j : ℕ) → slice_get xs h ≡ Some j → slice_get ls j ≡ Some m → find_library ls (name_at ls j) ≡ Some m → Lacks ls m.needs xs (map (name_at ls) xs) → breadth (suc (suc n)) ls (map (name_at ls) (drop h xs)) (map (name_at ls) xs) ≡ option_map (map (name_at ls)) (reach (suc n) (needed ls) h xs)
    lacking m j e p q g =
        breadth_next ls n h j xs m e q
        ∙ lost ls g.0 (number_none ls g.0 g.2) (suc n) (map (name_at ls) (drop (h + 1) xs) ++ news m.needs (map (name_at ls) xs)) (map (name_at ls) xs ++ news m.needs (map (name_at ls) xs)) (among-append g.0 (map (name_at ls) (drop (h + 1) xs)) (news m.needs (map (name_at ls) xs)) ∙ or_right (among g.0 (map (name_at ls) (drop (h + 1) xs))) (among g.0 (news m.needs (map (name_at ls) xs))) g.3)
        ∙ sym (ap (option_map (map (name_at ls))) (reach_next ls n h j xs m e p ∙ ap (λ v. on_some v (reach n (needed ls) (h + 1))) g.1))

    go : (o : Option ℕ) → slice_get xs h ≡ o → ((ys : List ℕ) → AllByRecursion (First ls) ys → Once (map (name_at ls) ys) → length ls ≡ n + (h + 1) → breadth (suc n) ls (map (name_at ls) (drop (h + 1) ys)) (map (name_at ls) ys) ≡ option_map (map (name_at ls)) (reach n (needed ls) (h + 1) ys)) → breadth (suc (suc n)) ls (map (name_at ls) (drop h xs)) (map (name_at ls) xs) ≡ option_map (map (name_at ls)) (reach (suc n) (needed ls) h xs)
    go None e r = queue_end ls (suc n) (suc n) h xs e
    go (Some j) e r =
        let k = number_is ls (name_at ls j) j (all_slice_get (First ls) xs h j f e) in
        ⊎_elim (λ g. whole k.0 j e k.1 k.2 g r) (lacking k.0 j e k.1 k.2) (gather ls k.0.needs xs (map (name_at ls) xs) f (alike_self ls xs))

pub closure_by_number : ClosureByNumber
closure_by_number ls x = go (number_of ls x) refl
  where
    go : (o : Option ℕ) → number_of ls x ≡ o → closure ls x ≡ on_some o (λ i. option_map (map (name_at ls)) (closure_numbers ls i))
    go None e = ap (λ o. on_some o (λ l. breadth (length ls) ls ([] ++ news l.needs (x ∷ [])) ((x ∷ []) ++ news l.needs (x ∷ [])))) (number_none ls x e)
    go (Some i) e =
        let n = number_name ls x i e in
        ap (λ y. breadth (suc (length ls)) ls (y ∷ []) (y ∷ [])) (sym n) ∙ breadth_is ls (length ls) 0 (i ∷ []) (number_first ls x i e, tt) (refl, tt) (omega arith)
