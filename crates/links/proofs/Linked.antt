-- Numbers of modules that are kept stay those of modules, and each cell has one binding.
use Rattle.std.proofs.ByRecursion.{All-push, All-append, All-set}
use Rattle.std.proofs.lemmas.Option.{slice_get_within, same_Some}
use Rattle.std.specs.List.{AllByRecursion}
use Rattle.std.specs.Prelude.{None, Option, Some, cond, filter, slice_get, slice_set}
use Rattle.std.proofs.Common.{◌≡◌, ℕ, zero, suc, ◌+◌, ◌<◌, ◌≤◌, Bool, true, false, ◌&&◌, eqb, leb, List, [], ◌∷◌, ◌++◌, map, length, sym, refl, ◌∙◌, subst, ⊎_elim, arith}
use Rattle.base.specs.Choices.{opt, on_some}
use Rattle.base.specs.Lists.{has}
use Rattle.base.specs.Names.{Name, same}
use Rattle.base.proofs.Choices.{on_some_inv, guard_inv}
use Rattle.base.proofs.Lists.{all_slice_get, all_like}
use Rattle.library.specs.Library.{Symbol, Cell, number, ref, at, slot, named, instruction, Library, find_library}
use Rattle.links.specs.Closure.{init_order}
use Rattle.links.specs.Links.{Place, Module, Group, Links, Room}
use Rattle.links.specs.Scope.{live_at, scope, resolve}
use Rattle.links.specs.Load.{Brought, joined, unbound, added, fits, find_loaded, bring_one, bring_all, ref_target, bound_to, bind_refs, init_ids, with_group, nothing_yet, Loaded, load}
use Rattle.links.specs.Close.{hosts, bound_of, unloaded, unload_all, leaving, unload, closed_group, close_group, slot_bound}
use Rattle.links.specs.Laws.{Below, Bindings, Linked, KeepsLinked, Sound}
use Rattle.links.proofs.Keys.{look_in, live_inv}
use Rattle.links.proofs.Loading.{Parts, load_parts}
use Rattle.std.proofs.lemmas.Bool.{eqb-true, or_cases}
use Rattle.std.proofs.lemmas.List.{length_push, length-map, length-set}

below_wider : (n m : ℕ) (js : List ℕ) → n ≤ m → Below n js → Below m js
below_wider n m [] h b = tt
below_wider n m (j ∷ js) h b = (omega (arith, b.0), below_wider n m js h b.1)

pub below_has : (n j : ℕ) (js : List ℕ) → Below n js → has j js ≡ true → j < n
below_has n j [] b e = let z : ◌≡◌ {A = ℕ} 0 1 = cc in absurd (omega arith)
below_has n j (x ∷ js) b e = ⊎_elim (λ q. omega (arith, b.0, eqb-true j x q)) (below_has n j js b.1) (or_cases (eqb j x) (has j js) e)

resolve_in : (k : Links) (me : ℕ) (s : Symbol) (p : Place) → resolve k me s ≡ Some p → p.host < length k.modules
resolve_in k me s p e = let t = look_in k.modules me s (scope k me) p e in slice_get_within k.modules p.host t.0 t.2

-- what refs are settled to is there
targets_below : (k : Links) (me : ℕ) (cs : List Cell) → Below (length k.modules) (hosts (map (ref_target k me) cs))
targets_below k me [] = tt
targets_below k me (number n ∷ cs) = targets_below k me cs
targets_below k me (ref s n must ∷ cs) = go (resolve k me s) refl (targets_below k me cs)
  where
    go : (o : Option Place) → resolve k me s ≡ o → Below (length k.modules) (hosts (map (ref_target k me) cs)) → Below (length k.modules) (hosts (o ∷ map (ref_target k me) cs))
    go None e r = r
    go (Some p) e r = (resolve_in k me s p e, r)
targets_below k me (at n ∷ cs) = targets_below k me cs
targets_below k me (slot s ∷ cs) = targets_below k me cs
targets_below k me (named x ∷ cs) = targets_below k me cs
targets_below k me (instruction o ∷ cs) = targets_below k me cs

nones_below : (n : ℕ) (cs : List Cell) → Below n (hosts (map (λ c. None) cs))
nones_below n [] = tt
nones_below n (c ∷ cs) = nones_below n cs

put_below : (n : ℕ) (bs : List (Option Place)) (j : ℕ) (p : Place) → Below n (hosts bs) → p.host < n → Below n (hosts (slice_set bs j (Some p)))
put_below n [] j p b h = tt
put_below n (None ∷ bs) zero p b h = (h, b)
put_below n (Some q ∷ bs) zero p b h = (h, b.1)
put_below n (None ∷ bs) (suc j) p b h = put_below n bs j p b h
put_below n (Some q ∷ bs) (suc j) p b h = (b.0, put_below n bs j p b.1 h)

abbrev Bounds : ℕ → List Module → Type 0
Bounds n ms = AllByRecursion (Bindings n) ms

put_bounds : (n i j : ℕ) (p : Place) (ms : List Module) → p.host < n → Bounds n ms → Bounds n (opt (slice_get ms i) ms (λ x. slice_set ms i (bound_to (slice_set x.bound j (Some p)) x)))
put_bounds n i j p ms b h = go (slice_get ms i) refl
  where
    go : (o : Option Module) → slice_get ms i ≡ o → Bounds n (opt o ms (λ x. slice_set ms i (bound_to (slice_set x.bound j (Some p)) x)))
    go None e = h
    go (Some x) e = let q = all_slice_get (Bindings n) ms i x h e in All-set (Bindings n) ms i (bound_to (slice_set x.bound j (Some p)) x) (record { sized = length-set x.bound j (Some p) ∙ q.sized; below = put_below n x.bound j p q.below b }) h

bind_bounds : (k : Links) (is : List ℕ) (ms : List Module) → Bounds (length k.modules) ms → Bounds (length k.modules) (bind_refs k is ms)
bind_bounds k [] ms h = h
bind_bounds k (i ∷ is) ms h = bind_bounds k is _ (go (slice_get ms i))
  where
    go : (o : Option Module) → Bounds (length k.modules) (opt o ms (λ x. slice_set ms i (bound_to (map (ref_target k i) x.lib.cells) x)))
    go None = h
    go (Some x) = All-set (Bindings (length k.modules)) ms i (bound_to (map (ref_target k i) x.lib.cells) x) (record { sized = length-map x.lib.cells (ref_target k i); below = targets_below k i x.lib.cells }) h

bind_length : (k : Links) (is : List ℕ) (ms : List Module) → length (bind_refs k is ms) ≡ length ms
bind_length k [] ms = refl
bind_length k (i ∷ is) ms = bind_length k is _ ∙ go (slice_get ms i)
  where
    go : (o : Option Module) → length (opt o ms (λ x. slice_set ms i (bound_to (map (ref_target k i) x.lib.cells) x))) ≡ length ms
    go None = refl
    go (Some x) = length-set ms i _

loaded_below : (ms : List Module) (n : ℕ) (x : Name) (j : ℕ) → find_loaded ms n x ≡ Some j → j < n + length ms
loaded_below [] n x j e = let z : ◌≡◌ {A = ℕ} 0 1 = cc in absurd (omega arith)
loaded_below (y ∷ ms) n x j e = go (y.live && same y.lib.name x) e (loaded_below ms (suc n) x j)
  where
    go : (b : Bool) → cond b (Some n) (find_loaded ms (suc n) x) ≡ Some j → (find_loaded ms (suc n) x ≡ Some j → j < suc n + length ms) → j < n + suc (length ms)
    go true q r = let p : n ≡ j = cc in omega arith
    go false q r = omega (arith, r q)

init_below : (ms : List Module) (new : List ℕ) (xs : List Name) → Below (length ms) (init_ids ms new xs)
init_below ms new [] = tt
init_below ms new (x ∷ xs) = go (find_loaded ms 0 x) refl (init_below ms new xs)
  where
    go : (o : Option ℕ) → find_loaded ms 0 x ≡ o → Below (length ms) (init_ids ms new xs) → Below (length ms) (opt o (init_ids ms new xs) (λ j. cond (has j new) (j ∷ init_ids ms new xs) (init_ids ms new xs)))
    go None e h = h
    go (Some j) e h = test (has j new)
      where
        test : (b : Bool) → Below (length ms) (cond b (j ∷ init_ids ms new xs) (init_ids ms new xs))
        test true = (omega (arith, loaded_below ms 0 x j e), h)
        test false = h

-- a group while it is brought in
record GroupIn (n : ℕ) (b : Brought) : Type 0 where
  longer : n ≤ length b.modules
  bounds : Bounds (length b.modules) b.modules
  members : Below (length b.modules) b.members

bounds_wider : (n m : ℕ) (ms : List Module) → n ≤ m → Bounds n ms → Bounds m ms
bounds_wider n m ms h b = all_like (Bindings n) (Bindings m) ms (λ x q. record { sized = q.sized; below = below_wider n m (hosts x.bound) h q.below }) b

module _ (ls : List Library) (m : Room) (g n : ℕ) where
  one_in : (b c : Brought) (x : Name) → GroupIn n b → bring_one ls m g b x ≡ Some c → GroupIn n c
  one_in b c x r e = go (find_loaded b.modules 0 x) refl e
    where
      kept : (d : Brought) → fits m d ≡ Some c → GroupIn n d → GroupIn n c
      kept d q f = let t = guard_inv (leb d.used m.words) d c q in subst (GroupIn n) t.1 f

      more : (l : Library) → length b.modules < length (b.modules ++ (unbound g l ∷ []))
      more l = omega (arith, length_push b.modules (unbound g l))

      go : (o : Option ℕ) → find_loaded b.modules 0 x ≡ o → opt o (on_some (find_library ls x) (λ l. fits m (added m g b l))) (λ j. fits m (joined b j)) ≡ Some c → GroupIn n c
      go None p q = let t = on_some_inv (find_library ls x) (λ l. fits m (added m g b l)) c q in kept (added m g b t.0) t.2 (record { longer = omega (arith, r.longer, more t.0); bounds = All-push (Bindings (length (added m g b t.0).modules)) b.modules _ (bounds_wider (length b.modules) _ b.modules (omega (arith, more t.0)) r.bounds) (record { sized = length-map t.0.cells (λ c. None); below = nones_below (length (added m g b t.0).modules) t.0.cells }); members = All-push (λ j. j < length (added m g b t.0).modules) b.members _ (below_wider (length b.modules) _ b.members (omega (arith, more t.0)) r.members) (more t.0) })
      go (Some j) p q = kept (joined b j) q (record { longer = r.longer; bounds = r.bounds; members = All-push (λ j. j < length b.modules) b.members j r.members (omega (arith, loaded_below b.modules 0 x j p)) })

  all_in : (xs : List Name) (b c : Brought) → GroupIn n b → bring_all ls m g xs b ≡ Some c → GroupIn n c
  all_in [] b c r e = subst (GroupIn n) (same_Some _ _ e) r
  all_in (x ∷ xs) b c r e = let t = on_some_inv (bring_one ls m g b x) (λ d. bring_all ls m g xs d) c e in all_in xs t.0 c (one_in b t.0 x r t.1) t.2

load_linked : (ls : List Library) (m : Room) (x : Name) (global : Bool) (k : Links) (l : Loaded) → Linked k → load ls m x global k ≡ Some l → Linked l.links
load_linked ls m x global k l h e = subst (λ q. Linked q.links) (sym p.is) (record { bound = rw long (bind_bounds t p.brought.new p.brought.modules b.bounds); members = rw long (All-append (λ g. Below (length p.brought.modules) g.members) k.groups _ (all_like (λ g. Below (length k.modules) g.members) (λ g. Below (length p.brought.modules) g.members) k.groups (λ g. below_wider (length k.modules) (length p.brought.modules) g.members b.longer) h.members) (b.members, tt)); order = rw long (All-append (λ j. j < length p.brought.modules) k.order _ (below_wider (length k.modules) (length p.brought.modules) k.order b.longer h.order) (init_below p.brought.modules p.brought.new (init_order ls x))) })
  where
    p : Parts ls m x global k l
    p = load_parts ls m x global k l e

    b : GroupIn (length k.modules) p.brought
    b = all_in ls m (length k.groups) (length k.modules) p.names (nothing_yet k) p.brought (record { longer = omega arith; bounds = h.bound; members = tt }) p.brings

    t : Links
    t = with_group k p.brought global

    long : length (bind_refs t p.brought.new p.brought.modules) ≡ length p.brought.modules
    long = bind_length t p.brought.new p.brought.modules

slot_linked : (k : Links) (me j : ℕ) (p : Place) → Linked k → p.host < length k.modules → Linked (slot_bound k me j p)
slot_linked k me j p h l = record { bound = rw long (put_bounds (length k.modules) me j p k.modules l h.bound); members = rw long h.members; order = rw long h.order }
  where
    long : length (opt (slice_get k.modules me) k.modules (λ x. slice_set k.modules me (bound_to (slice_set x.bound j (Some p)) x))) ≡ length k.modules
    long = go (slice_get k.modules me)
      where
        go : (o : Option Module) → length (opt o k.modules (λ x. slice_set k.modules me (bound_to (slice_set x.bound j (Some p)) x))) ≡ length k.modules
        go None = refl
        go (Some x) = length-set k.modules me _

close_linked : (k : Links) (h : ℕ) → Linked k → Linked (close_group k h)
close_linked k h l = record { bound = l.bound; members = go (slice_get k.groups h) refl; order = l.order }
  where
    go : (o : Option Group) → slice_get k.groups h ≡ o → AllByRecursion (λ g. Below (length k.modules) g.members) (opt o k.groups (λ g. slice_set k.groups h (closed_group g)))
    go None e = l.members
    go (Some g) e = All-set (λ g. Below (length k.modules) g.members) k.groups h (closed_group g) (all_slice_get (λ g. Below (length k.modules) g.members) k.groups h g l.members e) l.members

unload_bounds : (n : ℕ) (js : List ℕ) (ms : List Module) → Bounds n ms → Bounds n (unload_all js ms) × (length (unload_all js ms) ≡ length ms)
unload_bounds n [] ms h = (h, refl)
unload_bounds n (j ∷ js) ms h = go (slice_get ms j) refl (unload_bounds n js)
  where
    go : (o : Option Module) → slice_get ms j ≡ o → ((ms : List Module) → Bounds n ms → Bounds n (unload_all js ms) × (length (unload_all js ms) ≡ length ms)) → Bounds n (unload_all js (opt o ms (λ x. slice_set ms j (unloaded x)))) × (length (unload_all js (opt o ms (λ x. slice_set ms j (unloaded x)))) ≡ length ms)
    go None e r = r ms h
    go (Some x) e r = let q = all_slice_get (Bindings n) ms j x h e in let t = r (slice_set ms j (unloaded x)) (All-set (Bindings n) ms j (unloaded x) (record { sized = q.sized; below = q.below }) h) in (t.0, t.1 ∙ length-set ms j (unloaded x))

unload_linked : (k : Links) (js : List ℕ) → Linked k → Linked (unload js k)
unload_linked k js h = let t = unload_bounds (length k.modules) (filter (λ j. has j (leaving k)) js) k.modules h.bound in record { bound = rw t.1 t.0; members = rw t.1 h.members; order = rw t.1 h.order }

linked_sound : (k : Links) → Linked k → Sound (length k.modules) k.modules
linked_sound k h js j e = below_has (length k.modules) j (bound_of k.modules js) (all_below js) e
  where
    one_below : (i : ℕ) (o : Option Module) → live_at k.modules i ≡ o → Below (length k.modules) (opt o [] (λ x. hosts x.bound))
    one_below i None q = tt
    one_below i (Some x) q = (all_slice_get (Bindings (length k.modules)) k.modules i x h.bound (live_inv k.modules i x q).0).below

    all_below : (js : List ℕ) → Below (length k.modules) (bound_of k.modules js)
    all_below [] = tt
    all_below (i ∷ is) = All-append (λ j. j < length k.modules) (opt (live_at k.modules i) [] (λ x. hosts x.bound)) (bound_of k.modules is) (one_below i (live_at k.modules i) refl) (all_below is)

pub keeps_linked : KeepsLinked
keeps_linked = record { by_load = load_linked; by_slot = slot_linked; by_close = close_linked; by_unload = unload_linked; sound = linked_sound }
