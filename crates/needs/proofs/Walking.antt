-- A walk through needs does what the definition of the order of initialisation does, task by task.
use Rattle.std.specs.Prelude.{Bool, true, false, ◌||◌, Some, cond, slice_get, slice_set}
use Rattle.std.proofs.Common.{◌≡◌, ℕ, zero, suc, ◌+◌, ◌<◌, ◌≤◌, ⊎_elim, List, [], ◌∷◌, ◌++◌, map, length, drop, sym, refl, ap, ◌∙◌, subst, append_assoc, arith}
use Rattle.std.proofs.ByRecursion.{All-push}
use Rattle.std.proofs.lemmas.Bool.{cases_Bool, eq-eqb, ne_eqb}
use Rattle.std.proofs.lemmas.List.{map-append, length-append}
use Rattle.std.proofs.lemmas.Option.{same_Some, none-some}
use Rattle.base.specs.Choices.{opt}
use Rattle.base.specs.Lists.{has}
use Rattle.base.specs.Names.{Name, same, among}
use Rattle.library.specs.Library.{Library, find_library}
use Rattle.libraries.specs.Looks.{number_of}
use Rattle.lent.specs.Once.{joined}
use Rattle.lent.proofs.Marks.{has-push}
use Rattle.links.specs.Closure.{Task, enter, leave, enters, depth, all_needs, init_order}
use Rattle.needs.specs.Numbered.{name_at}
use Rattle.needs.specs.Walks.{Entered, tasks_for, tasks_of, needs_at, ahead}
use Rattle.needs.specs.Standing.{First, Stands, work}
use Rattle.needs.specs.Walks.{looked_on}
use Rattle.needs.proofs.ByNumber.{number_is, number_name, number_first, has_among, alike_push, taken_drop}

-- the last library's tasks come first
pub tasks-push : (ls : List Library) (es : List Entered) (e : Entered) (ts : List Task) → tasks_of ls (es ++ e ∷ []) ts ≡ tasks_for ls e ++ tasks_of ls es ts
tasks-push ls [] e ts = refl
tasks-push ls (f ∷ es) e ts = tasks-push ls es e (tasks_for ls f ++ ts)

length-enters : (ws : List Name) → length (enters ws) ≡ length ws
length-enters [] = refl
length-enters (w ∷ ws) = ap suc (length-enters ws)

-- what a library that is seen now takes away
ahead-push : (k d : ℕ) (xs : List ℕ) (ls : List Library) (l : Library) → slice_get ls d ≡ Some l → has (k + d) xs ≡ false → ahead k (xs ++ (k + d) ∷ []) ls + suc (length l.needs) ≡ ahead k xs ls
ahead-push k d xs [] l e h = absurd (none-some _ e)
ahead-push k zero xs (m ∷ ls) l e h =
    let q : k + 0 ≡ k = omega arith in
    let here : has k (xs ++ (k + 0) ∷ []) ≡ true = ap (λ j. has k (xs ++ j ∷ [])) q ∙ has-push k xs k ∙ ap (λ b. has k xs || b) (eq-eqb k k refl) ∙ or_true (has k xs) in
    let out : has k xs ≡ false = ap (λ j. has j xs) (sym q) ∙ h in
    let n : m ≡ l = same_Some _ _ e in
    let rest = ahead-past (suc k) k xs ls (omega arith) in
    rw (here, out, q, rest, n) (omega arith)
  where
    or_true : (b : Bool) → b || true ≡ true
    or_true true = refl
    or_true false = refl

    ahead-past : (k j : ℕ) (xs : List ℕ) (ls : List Library) → j < k → ahead k (xs ++ j ∷ []) ls ≡ ahead k xs ls
    ahead-past k j xs [] h = refl
    ahead-past k j xs (l ∷ ls) h =
        let e : has k (xs ++ j ∷ []) ≡ has k xs = has-push k xs j ∙ ap (λ b. has k xs || b) (ne_eqb k j (λ q. omega arith)) ∙ or_false (has k xs) in
        rw (e, ahead-past (suc k) j xs ls (omega arith)) refl
      where
        or_false : (b : Bool) → b || false ≡ b
        or_false true = refl
        or_false false = refl
ahead-push k (suc d) xs (m ∷ ls) l e h =
    let q : k + suc d ≡ suc k + d = omega arith in
    let same : has k (xs ++ (k + suc d) ∷ []) ≡ has k xs = has-push k xs (k + suc d) ∙ ap (λ b. has k xs || b) (ne_eqb k (k + suc d) (λ p. omega arith)) ∙ or_false (has k xs) in
    let rest = ahead-push (suc k) d xs ls l e (ap (λ j. has j xs) (sym q) ∙ h) in
    let rest2 : ahead (suc k) (xs ++ (k + suc d) ∷ []) ls + suc (length l.needs) ≡ ahead (suc k) xs ls = ap (λ j. ahead (suc k) (xs ++ j ∷ []) ls + suc (length l.needs)) q ∙ rest in
    rw same (omega arith)
  where
    or_false : (b : Bool) → b || false ≡ b
    or_false true = refl
    or_false false = refl

-- before anything is seen
ahead-none : (k : ℕ) (ls : List Library) → ahead k [] ls ≡ length ls + all_needs ls
ahead-none k [] = refl
ahead-none k (l ∷ ls) = omega (arith, ahead-none (suc k) ls)

-- nothing is left to do
pub walk_ends : (ls : List Library) (x : Name) (xs ys : List ℕ) → Stands ls x [] xs ys → init_order ls x ≡ map (name_at ls) ys
walk_ends ls x xs ys s = sym s.goes ∙ go s.steps
  where
    go : (n : ℕ) → depth n ls [] s.seen (map (name_at ls) ys) ≡ map (name_at ls) ys
    go zero = refl
    go (suc n) = refl

-- the tasks of the last library, and of those below it
tasks-last : (ls : List Library) (es : List Entered) (e : Entered) → tasks_of ls (es ++ e ∷ []) [] ≡ enters (drop e.looked (needs_at ls e.library)) ++ (leave (name_at ls e.library) ∷ tasks_of ls es [])
tasks-last ls es e = tasks-push ls es e [] ∙ append_assoc (enters (drop e.looked (needs_at ls e.library))) (leave (name_at ls e.library) ∷ []) (tasks_of ls es [])

-- the tasks that are left: of a library whose needs were all looked at
tasks-left : (ls : List Library) (es : List Entered) (e : Entered) → drop e.looked (needs_at ls e.library) ≡ [] → tasks_of ls (es ++ e ∷ []) [] ≡ leave (name_at ls e.library) ∷ tasks_of ls es []
tasks-left ls es e d = tasks-last ls es e ∙ ap (λ ws. enters ws ++ (leave (name_at ls e.library) ∷ tasks_of ls es [])) d

-- of one with a need to be looked at
tasks-looked : (ls : List Library) (es : List Entered) (e : Entered) (y : Name) → slice_get (needs_at ls e.library) e.looked ≡ Some y → tasks_of ls (es ++ e ∷ []) [] ≡ enter y ∷ tasks_of ls (es ++ looked_on e ∷ []) []
tasks-looked ls es e y n = tasks-last ls es e ∙ ap (λ ws. enters ws ++ (leave (name_at ls e.library) ∷ tasks_of ls es [])) (taken_drop (needs_at ls e.library) e.looked y n) ∙ ap (λ ts. enter y ∷ ts) (sym (tasks-last ls es (looked_on e)))

-- of one that is entered now
tasks-entered : (ls : List Library) (es : List Entered) (y : Name) (j : ℕ) → number_of ls y ≡ Some j → tasks_of ls (es ++ record { library = j; looked = 0 } ∷ []) [] ≡ opt (find_library ls y) [] (λ l. enters l.needs) ++ (leave y ∷ tasks_of ls es [])
tasks-entered ls es y j m =
    let own = number_is ls y j m in
    tasks-last ls es (record { library = j; looked = 0 })
    ∙ ap (λ o. enters (opt o [] (λ l. l.needs)) ++ (leave (name_at ls j) ∷ tasks_of ls es [])) own.1
    ∙ ap (λ z. enters (own.0.needs) ++ (leave z ∷ tasks_of ls es [])) (number_name ls y j m)
    ∙ ap (λ o. opt o [] (λ l. enters l.needs) ++ (leave y ∷ tasks_of ls es [])) (sym own.2)

-- how many they are
work-entered : (ls : List Library) (es : List Entered) (y : Name) (j : ℕ) (xs : List ℕ) → number_of ls y ≡ Some j → has j xs ≡ false → work ls (es ++ record { library = j; looked = 0 } ∷ []) (xs ++ j ∷ []) ≡ work ls es xs
work-entered ls es y j xs m b =
    let own = number_is ls y j m in
    let ts = tasks_of ls es [] in
    let many = ap length (tasks-entered ls es y j m) ∙ ap (λ o. length (opt o [] (λ l. enters l.needs) ++ (leave y ∷ ts))) own.2 in
    let one = length-append (enters own.0.needs) (leave y ∷ ts) in
    let two = length-enters own.0.needs in
    let z : 0 + j ≡ j = omega arith in
    let fewer : ahead 0 (xs ++ j ∷ []) ls + suc (length own.0.needs) ≡ ahead 0 xs ls = ap (λ i. ahead 0 (xs ++ i ∷ []) ls + suc (length own.0.needs)) (sym z) ∙ ahead-push 0 j xs ls own.0 own.1 (ap (λ i. has i xs) z ∙ b) in
    omega arith

-- the last library is left
walk_leaves : (ls : List Library) (x : Name) (es : List Entered) (e : Entered) (xs ys : List ℕ) → drop e.looked (needs_at ls e.library) ≡ [] → Stands ls x (es ++ e ∷ []) xs ys → Stands ls x es xs (ys ++ e.library ∷ [])
walk_leaves ls x es e xs ys d s = go s.steps s.goes s.enough
  where
    go : (k : ℕ) → depth k ls (tasks_of ls (es ++ e ∷ []) []) s.seen (map (name_at ls) ys) ≡ init_order ls x → work ls (es ++ e ∷ []) xs ≤ k → Stands ls x es xs (ys ++ e.library ∷ [])
    go zero g h = let l = ap length (tasks-left ls es e d) in absurd (omega arith)
    go (suc k) g h =
        let tasks = tasks-left ls es e d in
        let l = ap length tasks in
        record { first = s.first; steps = k; seen = s.seen; alike = s.alike; goes = ap (depth k ls (tasks_of ls es []) s.seen) (map-append (name_at ls) ys (e.library ∷ [])) ∙ ap (λ ts. depth (suc k) ls ts s.seen (map (name_at ls) ys)) (sym tasks) ∙ g; enough = omega arith }

-- a library that was seen before is not entered again
walk_passes : (ls : List Library) (x y : Name) (es : List Entered) (e : Entered) (j : ℕ) (xs ys : List ℕ) → slice_get (needs_at ls e.library) e.looked ≡ Some y → number_of ls y ≡ Some j → has j xs ≡ true → Stands ls x (es ++ e ∷ []) xs ys → Stands ls x (es ++ looked_on e ∷ []) xs ys
walk_passes ls x y es e j xs ys n m b s = go s.steps s.goes s.enough
  where
    there : among y s.seen ≡ true
    there = s.alike y ∙ sym (has_among ls y j xs m s.first) ∙ b

    go : (k : ℕ) → depth k ls (tasks_of ls (es ++ e ∷ []) []) s.seen (map (name_at ls) ys) ≡ init_order ls x → work ls (es ++ e ∷ []) xs ≤ k → Stands ls x (es ++ looked_on e ∷ []) xs ys
    go zero g h = let l = ap length (tasks-looked ls es e y n) in absurd (omega arith)
    go (suc k) g h =
        let tasks = tasks-looked ls es e y n in
        let l = ap length tasks in
        let ts = tasks_of ls (es ++ looked_on e ∷ []) [] in
        let done = map (name_at ls) ys in
        record { first = s.first; steps = k; seen = s.seen; alike = s.alike; goes = sym (ap (λ v. cond v (depth k ls ts s.seen done) (depth k ls (opt (find_library ls y) [] (λ l. enters l.needs) ++ (leave y ∷ ts)) (y ∷ s.seen) done)) there) ∙ ap (λ ts. depth (suc k) ls ts s.seen done) (sym tasks) ∙ g; enough = omega arith }

-- a library that wasn't seen is entered
walk_enters : (ls : List Library) (x y : Name) (es : List Entered) (e : Entered) (j : ℕ) (xs ys : List ℕ) → slice_get (needs_at ls e.library) e.looked ≡ Some y → number_of ls y ≡ Some j → has j xs ≡ false → Stands ls x (es ++ e ∷ []) xs ys → Stands ls x ((es ++ looked_on e ∷ []) ++ record { library = j; looked = 0 } ∷ []) (xs ++ j ∷ []) ys
walk_enters ls x y es e j xs ys n m b s = go s.steps s.goes s.enough
  where
    new : among y s.seen ≡ false
    new = s.alike y ∙ sym (has_among ls y j xs m s.first) ∙ b

    go : (k : ℕ) → depth k ls (tasks_of ls (es ++ e ∷ []) []) s.seen (map (name_at ls) ys) ≡ init_order ls x → work ls (es ++ e ∷ []) xs ≤ k → Stands ls x ((es ++ looked_on e ∷ []) ++ record { library = j; looked = 0 } ∷ []) (xs ++ j ∷ []) ys
    go zero g h = let l = ap length (tasks-looked ls es e y n) in absurd (omega arith)
    go (suc k) g h =
        let tasks = tasks-looked ls es e y n in
        let l = ap length tasks in
        let ts = tasks_of ls (es ++ looked_on e ∷ []) [] in
        let done = map (name_at ls) ys in
        let w = work-entered ls (es ++ looked_on e ∷ []) y j xs m b in
        record { first = All-push (First ls) xs j s.first (number_first ls y j m); steps = k; seen = y ∷ s.seen; alike = alike_push ls y j xs s.seen m s.alike; goes = ap (λ us. depth k ls us (y ∷ s.seen) done) (tasks-entered ls (es ++ looked_on e ∷ []) y j m) ∙ sym (ap (λ v. cond v (depth k ls ts s.seen done) (depth k ls (opt (find_library ls y) [] (λ l. enters l.needs) ++ (leave y ∷ ts)) (y ∷ s.seen) done)) new) ∙ ap (λ ts. depth (suc k) ls ts s.seen done) (sym tasks) ∙ g; enough = omega arith }

-- where a walk begins: nothing but its first library was entered
pub walk_begins : (ls : List Library) (x : Name) (i : ℕ) → number_of ls x ≡ Some i → Stands ls x (record { library = i; looked = 0 } ∷ []) (i ∷ []) []
walk_begins ls x i m =
    let n = 1 + (length ls + (length ls + all_needs ls)) in
    let w = work-entered ls [] x i [] m refl in
    let q : suc n ≡ 2 + (length ls + (length ls + all_needs ls)) = omega arith in
    record {
      first = (number_first ls x i m, tt);
      steps = n;
      seen = x ∷ [];
      alike = λ y. ap (λ z. same y z || false) (sym (number_name ls x i m));
      goes = ap (λ us. depth n ls us (x ∷ []) []) (tasks-entered ls [] x i m) ∙ ap (λ k. depth k ls (enter x ∷ []) [] []) q;
      enough = omega (arith, ahead-none 0 ls);
    }

set_last : {X : Type 0} (xs : List X) (m : ℕ) (x y : X) → length xs ≡ m → slice_set (xs ++ x ∷ []) m y ≡ xs ++ y ∷ []
set_last [] m x y e = ap (λ n. slice_set (x ∷ []) n y) (sym e)
set_last (z ∷ zs) m x y e = ap (λ n. slice_set (z ∷ (zs ++ x ∷ [])) n y) (sym e) ∙ ap (λ us. z ∷ us) (set_last zs (length zs) x y refl)

-- the same for what tables hold
pub left_stands : (ls : List Library) (x : Name) (es fs front : List Entered) (e : Entered) (xs zs ys us : List ℕ) → es ≡ front ++ e ∷ [] → fs ≡ front → zs ≡ xs → us ≡ ys ++ e.library ∷ [] → drop e.looked (needs_at ls e.library) ≡ [] → Stands ls x es xs ys → Stands ls x fs zs us
left_stands ls x es fs front e xs zs ys us a b c d n s =
    let P : List Entered → Type 0 = λ q. Stands ls x q xs ys in
    rw (b, c, d) (walk_leaves ls x front e xs ys n (subst P a s))

pub left_less : (ls : List Library) (es fs front : List Entered) (e : Entered) (xs zs : List ℕ) → es ≡ front ++ e ∷ [] → fs ≡ front → zs ≡ xs → drop e.looked (needs_at ls e.library) ≡ [] → work ls fs zs < work ls es xs
left_less ls es fs front e xs zs a b c n = let l = ap length (tasks-left ls front e n) in rw (a, b, c) (omega arith)

-- a need was looked at, and its library entered unless it was before
pub entered_stands : (ls : List Library) (x y : Name) (es gs fs front : List Entered) (e : Entered) (m j : ℕ) (xs zs ys us : List ℕ) → es ≡ front ++ e ∷ [] → length front ≡ m → gs ≡ slice_set es m (looked_on e) → fs ≡ cond (has j xs) gs (gs ++ record { library = j; looked = 0 } ∷ []) → zs ≡ joined j xs → us ≡ ys → slice_get (needs_at ls e.library) e.looked ≡ Some y → number_of ls y ≡ Some j → Stands ls x es xs ys → Stands ls x fs zs us
entered_stands ls x y es gs fs front e m j xs zs ys us a l b c d f n k s =
    let P : List Entered → Type 0 = λ q. Stands ls x q xs ys in
    let t = subst P a s in
    let g : gs ≡ front ++ looked_on e ∷ [] = b ∙ ap (λ q. slice_set q m (looked_on e)) a ∙ set_last front m e (looked_on e) l in
    ⊎_elim
    (λ (h : has j xs ≡ true). let v : fs ≡ front ++ looked_on e ∷ [] = c ∙ ap (λ q. cond q gs (gs ++ record { library = j; looked = 0 } ∷ [])) h ∙ g in let w : zs ≡ xs = d ∙ ap (λ q. cond q xs (xs ++ j ∷ [])) h in rw (v, w, f) (walk_passes ls x y front e j xs ys n k h t))
    (λ (h : has j xs ≡ false). let v : fs ≡ (front ++ looked_on e ∷ []) ++ record { library = j; looked = 0 } ∷ [] = c ∙ ap (λ q. cond q gs (gs ++ record { library = j; looked = 0 } ∷ [])) h ∙ ap (λ q. q ++ record { library = j; looked = 0 } ∷ []) g in let w : zs ≡ xs ++ j ∷ [] = d ∙ ap (λ q. cond q xs (xs ++ j ∷ [])) h in rw (v, w, f) (walk_enters ls x y front e j xs ys n k h t))
    (cases_Bool (has j xs))

pub entered_less : (ls : List Library) (y : Name) (es gs fs front : List Entered) (e : Entered) (m j : ℕ) (xs zs : List ℕ) → es ≡ front ++ e ∷ [] → length front ≡ m → gs ≡ slice_set es m (looked_on e) → fs ≡ cond (has j xs) gs (gs ++ record { library = j; looked = 0 } ∷ []) → zs ≡ joined j xs → slice_get (needs_at ls e.library) e.looked ≡ Some y → number_of ls y ≡ Some j → work ls fs zs < work ls es xs
entered_less ls y es gs fs front e m j xs zs a l b c d n k =
    let g : gs ≡ front ++ looked_on e ∷ [] = b ∙ ap (λ q. slice_set q m (looked_on e)) a ∙ set_last front m e (looked_on e) l in
    let t = ap length (tasks-looked ls front e y n) in
    let r : work ls (front ++ looked_on e ∷ []) xs < work ls (front ++ e ∷ []) xs = omega arith in
    ⊎_elim
    (λ (h : has j xs ≡ true). let v : fs ≡ front ++ looked_on e ∷ [] = c ∙ ap (λ q. cond q gs (gs ++ record { library = j; looked = 0 } ∷ [])) h ∙ g in let w : zs ≡ xs = d ∙ ap (λ q. cond q xs (xs ++ j ∷ [])) h in rw (a, v, w) r)
    (λ (h : has j xs ≡ false). let v : fs ≡ (front ++ looked_on e ∷ []) ++ record { library = j; looked = 0 } ∷ [] = c ∙ ap (λ q. cond q gs (gs ++ record { library = j; looked = 0 } ∷ [])) h ∙ ap (λ q. q ++ record { library = j; looked = 0 } ∷ []) g in let w : zs ≡ xs ++ j ∷ [] = d ∙ ap (λ q. cond q xs (xs ++ j ∷ [])) h in let z = work-entered ls (front ++ looked_on e ∷ []) y j xs k h in rw (a, v, w) (omega arith))
    (cases_Bool (has j xs))

-- a walk stands where what it holds is the same
pub stands_at : (ls : List Library) (x : Name) (es fs : List Entered) (xs zs ys us : List ℕ) → fs ≡ es → zs ≡ xs → us ≡ ys → Stands ls x es xs ys → Stands ls x fs zs us
stands_at ls x es fs xs zs ys us a b c s = rw (a, b, c) s
