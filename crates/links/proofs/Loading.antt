-- A load puts new modules behind the old ones and takes words in order.
use Rattle.std.proofs.lemmas.Option.{same_Some}
use Rattle.std.proofs.ByRecursion.{All-push}
use Rattle.std.specs.List.{AllByRecursion}
use Rattle.std.specs.Prelude.{None, Option, Some, cond, slice_get, slice_set}
use Rattle.std.proofs.Common.{◌≡◌, ℕ, zero, suc, ◌+◌, ◌<◌, ◌≤◌, Bool, true, false, leb, List, [], ◌∷◌, ◌++◌, map, length, sym, refl, ap, ◌∙◌, subst, append_assoc, append-nil, arith}
use Rattle.base.specs.Choices.{opt, on_some, guard}
use Rattle.base.specs.Names.{Name}
use Rattle.base.proofs.Choices.{on_some_inv, guard_inv, opt_some}
use Rattle.library.specs.Library.{Symbol, Cell, number, ref, at, slot, named, instruction, Library, find_library}
use Rattle.links.specs.Closure.{news, breadth, closure, init_order}
use Rattle.links.specs.Links.{Module, Key, key, Links, Room, cells_in}
use Rattle.links.specs.Scope.{live_at, resolve}
use Rattle.links.specs.Load.{Brought, joined, unbound, added, fits, find_loaded, bring_one, bring_all, refs_met, ref_target, bound_to, bind_refs, init_ids, places, calls_of, with_group, ordered, nothing_yet, Loaded, load}
use Rattle.links.specs.Laws.{up_from, Rising, Comes, BoundFrom, Loads, LoadAppends}
use Rattle.links.proofs.Keys.{put_key, over_key, resolve_stable}
use Rattle.std.proofs.lemmas.List.{length_push, length-append, length-map}
use Rattle.std.proofs.lemmas.Bool.{leb-true}

pub up_from_push : (a n : ℕ) → up_from a (suc n) ≡ up_from a n ++ ((a + n) ∷ [])
up_from_push a zero = let e : a + 0 ≡ a = omega arith in rw e
up_from_push a (suc n) = let e : a + suc n ≡ suc a + n = omega arith in rw e (ap (λ z. a ∷ z) (up_from_push (suc a) n))

pub rising_wider : (u : ℕ) (bs zs : List ℕ) (e f : ℕ) → Rising u bs zs e → e ≤ f → Rising u bs zs f
rising_wider u [] [] e f r h = omega arith
rising_wider u [] (z ∷ zs) e f r h = r
rising_wider u (b ∷ bs) [] e f r h = r
rising_wider u (b ∷ bs) (z ∷ zs) e f r h = (r.0, rising_wider (suc (b + z)) bs zs e f r.1 h)

pub rising_push : (u : ℕ) (bs zs : List ℕ) (e b z f : ℕ) → Rising u bs zs e → e ≤ b → suc (b + z) ≤ f → Rising u (bs ++ (b ∷ [])) (zs ++ (z ∷ [])) f
rising_push u [] [] e b z f r h k = (omega arith, k)
rising_push u [] (y ∷ zs) e b z f r h k = absurd r
rising_push u (a ∷ bs) [] e b z f r h k = absurd r
rising_push u (a ∷ bs) (y ∷ zs) e b z f r h k = (r.0, rising_push (suc (a + y)) bs zs e b z f r.1 h k)

pub map_push : {A B : Type 0} (f : A → B) (xs : List A) (x : A) → map f (xs ++ (x ∷ [])) ≡ map f xs ++ (f x ∷ [])
map_push f [] x = refl
map_push f (y ∷ xs) x = ap (λ z. f y ∷ z) (map_push f xs x)

-- a group while it is brought in
record Bringing (ls : List Library) (m : Room) (g : ℕ) (k : Links) (b : Brought) : Type 0 where
  fresh : List Module
  modules : b.modules ≡ k.modules ++ fresh
  new : b.new ≡ up_from (length k.modules) (length fresh)
  come : AllByRecursion (Comes ls g) fresh
  rising : Rising k.used b.starts (map cells_in fresh) b.used

module _ (ls : List Library) (m : Room) (g : ℕ) (k : Links) where
  joined_brings : (b : Brought) (j : ℕ) → Bringing ls m g k b → suc b.used ≤ m.words → Bringing ls m g k (joined b j)
  joined_brings b j r h = record { fresh = r.fresh; modules = r.modules; new = r.new; come = r.come; rising = rising_wider k.used b.starts (map cells_in r.fresh) b.used (suc b.used) r.rising (omega arith) }

  added_brings : (b : Brought) (x : Name) (l : Library) → find_library ls x ≡ Some l → Bringing ls m g k b → b.used + (m.gap + (1 + length l.cells)) ≤ m.words → Bringing ls m g k (added m g b l)
  added_brings b x l e r h = record { fresh = r.fresh ++ (y ∷ []); modules = ap (λ z. z ++ (y ∷ [])) r.modules ∙ append_assoc k.modules r.fresh (y ∷ []); new = (λ i. r.new i ++ (count i ∷ [])) ∙ sym (up_from_push (length k.modules) (length r.fresh)) ∙ ap (up_from (length k.modules)) (sym (length_push r.fresh y ∙ one)); come = All-push (Comes ls g) r.fresh y r.come (record { name = x; found = e; live = refl; group = refl }); rising = rw (map_push cells_in r.fresh y) (rising_push k.used b.starts (map cells_in r.fresh) b.used (b.used + m.gap) (length l.cells) _ r.rising (omega arith) (omega arith)) }
    where
      y : Module
      y = unbound g l

      one : length r.fresh + 1 ≡ suc (length r.fresh)
      one = omega arith

      count : length b.modules ≡ length k.modules + length r.fresh
      count = ap length r.modules ∙ length-append k.modules r.fresh

  one_brings : (b c : Brought) (x : Name) → Bringing ls m g k b → bring_one ls m g b x ≡ Some c → Bringing ls m g k c
  one_brings b c x r e = go (find_loaded b.modules 0 x) e
    where
      kept : (d : Brought) → fits m d ≡ Some c → (d.used ≤ m.words → Bringing ls m g k d) → Bringing ls m g k c
      kept d q f = let t = guard_inv (leb d.used m.words) d c q in subst (Bringing ls m g k) t.1 (f (leb-true d.used m.words t.0))

      go : (o : Option ℕ) → opt o (on_some (find_library ls x) (λ l. fits m (added m g b l))) (λ j. fits m (joined b j)) ≡ Some c → Bringing ls m g k c
      go None q = let t = on_some_inv (find_library ls x) (λ l. fits m (added m g b l)) c q in kept (added m g b t.0) t.2 (added_brings b x t.0 t.1 r)
      go (Some j) q = kept (joined b j) q (joined_brings b j r)

  all_brings : (xs : List Name) (b c : Brought) → Bringing ls m g k b → bring_all ls m g xs b ≡ Some c → Bringing ls m g k c
  all_brings [] b c r e = subst (Bringing ls m g k) (same_Some _ _ e) r
  all_brings (x ∷ xs) b c r e = let t = on_some_inv (bring_one ls m g b x) (λ d. bring_all ls m g xs d) c e in all_brings xs t.0 c (one_brings b t.0 x r t.1) t.2

  none_brings : Bringing ls m g k (nothing_yet k)
  none_brings = record { fresh = []; modules = sym (append-nil k.modules); new = refl; come = tt; rising = omega arith }

-- a closure isn't empty, so something was brought in, and it fits
breadth_longer : (n : ℕ) (ls : List Library) (queue seen ys : List Name) → breadth n ls queue seen ≡ Some ys → length seen ≤ length ys
breadth_longer n ls [] seen ys e = let q : seen ≡ ys = cc in omega (arith, ap length q)
breadth_longer zero ls (x ∷ xs) seen ys e = let z : ◌≡◌ {A = ℕ} 0 1 = cc in absurd (omega arith)
breadth_longer (suc n) ls (x ∷ xs) seen ys e = let t = on_some_inv (find_library ls x) _ ys e in let r = breadth_longer n ls (xs ++ news t.0.needs seen) (seen ++ news t.0.needs seen) ys t.2 in omega (arith, length-append seen (news t.0.needs seen))

pub record Took (m : Room) (u : ℕ) (b : Brought) : Type 0 where
  pub more : u < b.used
  pub fits : b.used ≤ m.words
  pub any : 1 ≤ length b.modules

loaded_any : (ms : List Module) (n : ℕ) (x : Name) (j : ℕ) → find_loaded ms n x ≡ Some j → 1 ≤ length ms
loaded_any [] n x j e = let z : ◌≡◌ {A = ℕ} 0 1 = cc in absurd (omega arith)
loaded_any (y ∷ ms) n x j e = omega arith

module _ (ls : List Library) (m : Room) (g : ℕ) where
  one_held : (u : ℕ) (b c : Brought) (x : Name) → u ≤ b.used → bring_one ls m g b x ≡ Some c → Took m u c
  one_held u b c x l e = go (find_loaded b.modules 0 x) refl e
    where
      kept : (d : Brought) → u < d.used → 1 ≤ length d.modules → fits m d ≡ Some c → Took m u c
      kept d n h q = let t = guard_inv (leb d.used m.words) d c q in subst (Took m u) t.1 (record { more = n; fits = leb-true d.used m.words t.0; any = h })

      go : (o : Option ℕ) → find_loaded b.modules 0 x ≡ o → opt o (on_some (find_library ls x) (λ l. fits m (added m g b l))) (λ j. fits m (joined b j)) ≡ Some c → Took m u c
      go None p q = let t = on_some_inv (find_library ls x) (λ l. fits m (added m g b l)) c q in kept (added m g b t.0) (omega arith) (omega (arith, length_push b.modules (unbound g t.0))) t.2
      go (Some j) p q = kept (joined b j) (omega arith) (loaded_any b.modules 0 x j p) q

  rest_held : (u : ℕ) (xs : List Name) (b c : Brought) → Took m u b → bring_all ls m g xs b ≡ Some c → Took m u c
  rest_held u [] b c r e = subst (Took m u) (same_Some _ _ e) r
  rest_held u (x ∷ xs) b c r e = let t = on_some_inv (bring_one ls m g b x) (λ d. bring_all ls m g xs d) c e in rest_held u xs t.0 c (one_held u b t.0 x (omega (arith, r.more)) t.1) t.2

  all_held : (xs : List Name) (b c : Brought) → 1 ≤ length xs → bring_all ls m g xs b ≡ Some c → Took m b.used c
  all_held [] b c h e = absurd (omega arith)
  all_held (x ∷ xs) b c h e = let t = on_some_inv (bring_one ls m g b x) (λ d. bring_all ls m g xs d) c e in rest_held b.used xs t.0 c (one_held b.used b t.0 x (omega arith) t.1) t.2

-- binding changes no key
pub bind_refs_keys : (k : Links) (is : List ℕ) (ms : List Module) → map key (bind_refs k is ms) ≡ map key ms
bind_refs_keys k [] ms = refl
bind_refs_keys k (i ∷ is) ms = bind_refs_keys k is _ ∙ go (slice_get ms i) refl
  where
    go : (o : Option Module) → slice_get ms i ≡ o → map key (opt o ms (λ x. slice_set ms i (bound_to (map (ref_target k i) x.lib.cells) x))) ≡ map key ms
    go None e = refl
    go (Some x) e = put_key ms i x _ e refl

-- the new modules, bound; i: the number of the first
abbrev bound_from : Links → ℕ → List Module → List Module
bound_from k i [] = []
bound_from k i (x ∷ xs) = bound_to (map (ref_target k i) x.lib.cells) x ∷ bound_from k (suc i) xs

slice_get_middle : {A : Type 0} (xs ys : List A) (x : A) → slice_get (xs ++ (x ∷ ys)) (length xs) ≡ Some x
slice_get_middle [] ys x = refl
slice_get_middle (z ∷ xs) ys x = slice_get_middle xs ys x

put_middle : {A : Type 0} (xs ys : List A) (x v : A) → slice_set (xs ++ (x ∷ ys)) (length xs) v ≡ xs ++ (v ∷ ys)
put_middle [] ys x v = refl
put_middle (z ∷ xs) ys x v = ap (λ zs. z ∷ zs) (put_middle xs ys x v)

bind_refs_are : (k : Links) (old fresh : List Module) → bind_refs k (up_from (length old) (length fresh)) (old ++ fresh) ≡ old ++ bound_from k (length old) fresh
bind_refs_are k old [] = refl
bind_refs_are k old (x ∷ xs) = ap (bind_refs k (up_from (suc (length old)) (length xs))) first ∙ subst (λ n. bind_refs k (up_from n (length xs)) ((old ++ (y ∷ [])) ++ xs) ≡ (old ++ (y ∷ [])) ++ bound_from k n xs) next (bind_refs_are k (old ++ (y ∷ [])) xs) ∙ append_assoc old (y ∷ []) (bound_from k (suc (length old)) xs)
  where
    y : Module
    y = bound_to (map (ref_target k (length old)) x.lib.cells) x

    next : length (old ++ (y ∷ [])) ≡ suc (length old)
    next = omega (arith, length_push old y)

    first : opt (slice_get (old ++ (x ∷ xs)) (length old)) (old ++ (x ∷ xs)) (λ z. slice_set (old ++ (x ∷ xs)) (length old) (bound_to (map (ref_target k (length old)) z.lib.cells) z)) ≡ (old ++ (y ∷ [])) ++ xs
    first = opt_some (slice_get (old ++ (x ∷ xs)) (length old)) (old ++ (x ∷ xs)) (λ z. slice_set (old ++ (x ∷ xs)) (length old) (bound_to (map (ref_target k (length old)) z.lib.cells) z)) x (slice_get_middle old xs x) ∙ put_middle old xs x y ∙ sym (append_assoc old (y ∷ []) xs)

bound_cells : (k : Links) (i : ℕ) (xs : List Module) → map cells_in (bound_from k i xs) ≡ map cells_in xs
bound_cells k i [] = refl
bound_cells k i (x ∷ xs) = ap (λ ns. cells_in x ∷ ns) (bound_cells k (suc i) xs)

bound_length : (k : Links) (i : ℕ) (xs : List Module) → length (bound_from k i xs) ≡ length xs
bound_length k i [] = refl
bound_length k i (x ∷ xs) = ap suc (bound_length k (suc i) xs)

bound_come : (ls : List Library) (g : ℕ) (k : Links) (i : ℕ) (xs : List Module) → AllByRecursion (Comes ls g) xs → AllByRecursion (Comes ls g) (bound_from k i xs)
bound_come ls g k i [] c = tt
bound_come ls g k i (x ∷ xs) c = (record { name = c.0.name; found = c.0.found; live = c.0.live; group = c.0.group }, bound_come ls g k (suc i) xs c.1)

-- what a ref is settled to goes by what symbols mean
target_stable : (k q : Links) → ((me : ℕ) (s : Symbol) → resolve q me s ≡ resolve k me s) → (i : ℕ) (c : Cell) → ref_target k i c ≡ ref_target q i c
target_stable k q h i (number n) = refl
target_stable k q h i (ref s n must) = sym (h i s)
target_stable k q h i (at n) = refl
target_stable k q h i (slot s) = refl
target_stable k q h i (named x) = refl
target_stable k q h i (instruction o) = refl

bound_as : (k q : Links) → ((i : ℕ) (c : Cell) → ref_target k i c ≡ ref_target q i c) → (i : ℕ) (xs : List Module) → BoundFrom q i (bound_from k i xs)
bound_as k q h i [] = tt
bound_as k q h i (x ∷ xs) = ((λ t. map (λ c. h i c t) x.lib.cells), bound_as k q h (suc i) xs)

-- calls go by keys alone
one_call : (Library → List ℕ) → ℕ → Option Key → List Rattle.links.specs.Links.Place
one_call f j None = []
one_call f j (Some q) = cond q.live (places j (f q.lib)) []

one_call_is : (f : Library → List ℕ) (ms : List Module) (j : ℕ) → opt (live_at ms j) [] (λ x. places j (f x.lib)) ≡ one_call f j (Rattle.std.specs.Option.option_map key (slice_get ms j))
unfolding one_call
one_call_is f ms j = go (slice_get ms j)
  where
    live_go : (x : Module) (b : Bool) → opt (guard b (Some x)) [] (λ x. places j (f x.lib)) ≡ cond b (places j (f x.lib)) []
    live_go x true = refl
    live_go x false = refl

    go : (o : Option Module) → opt (on_some o (λ x. guard x.live (Some x))) [] (λ x. places j (f x.lib)) ≡ one_call f j (Rattle.std.specs.Option.option_map key o)
    go None = refl
    go (Some x) = live_go x x.live

pub calls_same : (f : Library → List ℕ) (ms ns : List Module) → map key ms ≡ map key ns → (js : List ℕ) → calls_of f ms js ≡ calls_of f ns js
calls_same f ms ns e [] = refl
calls_same f ms ns e (j ∷ js) = λ t. (one_call_is f ms j ∙ ap (one_call f j) (over_key ms ns e j) ∙ sym (one_call_is f ns j)) t ++ calls_same f ms ns e js t

-- a load, taken apart
pub record Parts (ls : List Library) (m : Room) (x : Name) (global : Bool) (k : Links) (l : Loaded) : Type 0 where
  pub names : List Name
  pub closed : closure ls x ≡ Some names
  pub brought : Brought
  pub brings : bring_all ls m (length k.groups) names (nothing_yet k) ≡ Some brought
  pub met : refs_met (with_group k brought global) brought.new ≡ true
  pub is : l ≡ ordered (with_group k brought global) brought (init_ids brought.modules brought.new (init_order ls x))

pub load_parts : (ls : List Library) (m : Room) (x : Name) (global : Bool) (k : Links) (l : Loaded) → load ls m x global k ≡ Some l → Parts ls m x global k l
load_parts ls m x global k l e =
    let p = on_some_inv (closure ls x) _ l e in
    let q = on_some_inv (bring_all ls m (length k.groups) p.0 (nothing_yet k)) _ l p.2 in
    let r = guard_inv (refs_met (with_group k q.0 global) q.0.new) _ l q.2 in
    record { names = p.0; closed = p.1; brought = q.0; brings = q.1; met = r.0; is = sym r.1 }

pub load_appends : LoadAppends
load_appends ls m x global k l e = subst (Loads ls m k) (sym p.is) (record { fresh = fresh; modules = modules; new = b.new ∙ ap (up_from (length k.modules)) (sym (bound_length t (length k.modules) b.fresh)); come = bound_come ls (length k.groups) t (length k.modules) b.fresh b.come; bound = bound_as t l'.links (target_stable t l'.links (resolve_stable t l'.links.modules (bind_refs_keys t p.brought.new p.brought.modules))) (length k.modules) b.fresh; rising = rw (bound_cells t (length k.modules) b.fresh) b.rising; taken = h.more; groups = length_push k.groups _; fits = h.fits; any = omega (arith, h.any, sym (length-map (bind_refs t p.brought.new p.brought.modules) key) ∙ ap length (bind_refs_keys t p.brought.new p.brought.modules) ∙ length-map p.brought.modules key); calls = (js, sym (calls_same (λ z. z.inits) (bind_refs t p.brought.new p.brought.modules) p.brought.modules (bind_refs_keys t p.brought.new p.brought.modules) js)) })
  where
    p : Parts ls m x global k l
    p = load_parts ls m x global k l e

    b : Bringing ls m (length k.groups) k p.brought
    b = all_brings ls m (length k.groups) k p.names (nothing_yet k) p.brought (none_brings ls m (length k.groups) k) p.brings

    h : Took m k.used p.brought
    h = all_held ls m (length k.groups) p.names (nothing_yet k) p.brought (breadth_longer (suc (length ls)) ls (x ∷ []) (x ∷ []) p.names p.closed) p.brings

    t : Links
    t = with_group k p.brought global

    js : List ℕ
    js = init_ids p.brought.modules p.brought.new (init_order ls x)

    l' : Loaded
    l' = ordered t p.brought js

    fresh : List Module
    fresh = bound_from t (length k.modules) b.fresh

    modules : bind_refs t p.brought.new p.brought.modules ≡ k.modules ++ fresh
    modules = (λ i. bind_refs t (b.new i) (b.modules i)) ∙ bind_refs_are t k.modules b.fresh
