-- Links stay whole.
use Rattle.std.proofs.lemmas.Option.{slice_get_within, none-some, same_Some}
use Rattle.std.specs.Prelude.{None, Option, Some, cond, filter, is_some, slice_get, slice_set}
use Rattle.std.proofs.Common.{◌≡◌, ℕ, zero, suc, ◌+◌, Bool, true, false, not, ◌&&◌, leb, ◌⊎◌, List, [], ◌∷◌, ◌++◌, map, length, sym, refl, ap, ◌∙◌, subst, inl, inr, ⊎_elim, arith}
use Rattle.base.specs.Choices.{opt, on_some}
use Rattle.base.specs.Lists.{has, Within}
use Rattle.base.specs.Names.{Name, among, Once}
use Rattle.base.proofs.Choices.{on_some_inv, guard_inv}
use Rattle.base.proofs.Lists.{slice_get_last, slice_get-set_same, slice_get-set_other}
use Rattle.base.proofs.Sets.{has_here, has_there}
use Rattle.library.specs.Library.{Cell, number, ref, at, slot, named, instruction, Library, find_library}
use Rattle.links.specs.Closure.{init_order}
use Rattle.links.specs.Links.{Place, Module, Group, key, Links, Room}
use Rattle.links.specs.Scope.{live_at, resolve}
use Rattle.links.specs.Load.{Brought, joined, unbound, added, fits, find_loaded, bring_one, bring_all, ref_target, bound_to, init_ids, with_group, nothing_yet, Loaded, load}
use Rattle.links.specs.Close.{joins, open_members, hosts, bound_of, retained, leaving, unload_all, unload, closed_group, close_group, slot_bound}
use Rattle.links.specs.Laws.{BoundFrom, Loads, Linked}
use Rattle.links.specs.Whole.{staying, StaysLeast, Live, OneEach, Distinct, Whole, KeepsWhole}
use Rattle.links.proofs.Among.{among_here, among_cases, among_none, among_not, NamesIn, among_there}
use Rattle.links.proofs.Keys.{put_key, live_inv, live_from}
use Rattle.links.proofs.Leaving.{has-append, has_left, has_right, joins_from, bound_in, retained_least}
use Rattle.links.proofs.Linked.{below_has, keeps_linked}
use Rattle.links.proofs.Lives.{live_is, is_live, LiveKeys, one_keys, live_left, LiveLeft, live_push, find_named, loaded_is, loaded_none, unload_inv, unload_stays}
use Rattle.links.proofs.Loading.{Parts, load_parts, load_appends, bind_refs_keys}
use Rattle.links.proofs.Numbers.{has_none, has_not, has_cases, has_first, has-keep, keep-has, distinct_append, up_from_least}
use Rattle.links.proofs.Order.{order_right}
use Rattle.links.proofs.Resolved.{resolve_first}
use Rattle.links.proofs.Retained.{joins_old, joins_new, retained_closed}
use Rattle.std.proofs.lemmas.Bool.{cases_Bool, cases_eq}

-- what stays
retained_more : (n : ℕ) (ms : List Module) (js : List ℕ) → Within js (retained n ms js)
retained_more zero ms js j e = e
retained_more (suc n) ms js j e = retained_more n ms (joins (bound_of ms js) js) j (joins_old (bound_of ms js) js j e)

pub stays_least : StaysLeast
stays_least = record { roots = λ k j e. retained_more (length k.modules) k.modules (joins (open_members k.groups) []) j (joins_new (open_members k.groups) [] j e); closed = λ k h. retained_closed k.modules (joins (open_members k.groups) []) (keeps_linked.sound k h); least = λ k s r c. retained_least (length k.modules) k.modules (joins (open_members k.groups) []) s (λ j e. ⊎_elim (r j) (has_none j) (joins_from (open_members k.groups) [] j e)) c }

-- a close or an unload
open_fewer : (gs : List Group) (h : ℕ) (g : Group) → slice_get gs h ≡ Some g → Within (open_members (slice_set gs h (closed_group g))) (open_members gs)
open_fewer [] h g e = absurd (none-some _ e)
open_fewer (f ∷ gs) zero g e = λ j q. has_right (cond f.opened f.members []) (open_members gs) j q
open_fewer (f ∷ gs) (suc h) g e = λ j q. ⊎_elim (has_left (cond f.opened f.members []) (open_members gs) j) (λ p. has_right (cond f.opened f.members []) (open_members gs) j (open_fewer gs h g e j p)) (has-append (cond f.opened f.members []) (open_members (slice_set gs h (closed_group g))) j q)

close_fewer : (k : Links) (h : ℕ) → Within (open_members (close_group k h).groups) (open_members k.groups)
close_fewer k h = go (slice_get k.groups h) refl
  where
    go : (o : Option Group) → slice_get k.groups h ≡ o → Within (open_members (opt o k.groups (λ g. slice_set k.groups h (closed_group g)))) (open_members k.groups)
    go None e = λ j q. q
    go (Some g) e = open_fewer k.groups h g e

close_whole : (k : Links) (h : ℕ) → Whole k → Whole (close_group k h)
close_whole k h w = record { linked = keeps_linked.by_close k h w.linked; bound = w.bound; members = λ j e. w.members j (close_fewer k h j e); one_each = w.one_each; ordered = w.ordered; once = w.once }

-- what is live leaves or stays
pub leaves_or_stays : (k : Links) → Whole k → (i : ℕ) → Live k.modules i → (has i (leaving k) ≡ true) ⊎ (has i (staying k) ≡ true)
leaves_or_stays k w i h = ⊎_elim inr (λ q. inl (has-keep (λ j. is_some (live_at k.modules j) && not (has j (staying k))) i k.order (w.ordered i h) (λ t. h t && not (q t)))) (cases_Bool (has i (staying k)))

unload_whole : (k : Links) (js : List ℕ) → Whole k → ((i : ℕ) → Live k.modules i → (has i js ≡ true) ⊎ (has i (staying k) ≡ true)) → Whole (unload js k)
unload_whole k js w c = record { linked = keeps_linked.by_unload k js w.linked; bound = λ i j x e h. let p = unload_inv ds k.modules i x e in lives j (w.bound i j x p.0 h) (stays_least.closed k w.linked j (bound_in k.modules (staying k) i j (in_staying i x p.0 p.1) (subst (λ o. has j (opt o [] (λ x. hosts x.bound)) ≡ true) (sym p.0) h))); members = λ j e. lives j (w.members j e) (stays_least.roots k j e); one_each = λ i j x y p q. w.one_each i j x y (unload_inv ds k.modules i x p).0 (unload_inv ds k.modules j y q).0; ordered = λ j h. let t = live_is (unload_all ds k.modules) j h in w.ordered j (is_live k.modules j t.0 (unload_inv ds k.modules j t.0 t.1).0); once = w.once }
  where
    ds : List ℕ
    ds = filter (λ j. has j (leaving k)) js

    -- what stays isn't unloaded
    kept : (j : ℕ) → has j (staying k) ≡ true → has j ds ≡ false
    kept j e = ⊎_elim (λ p. let q = keep-has (λ j. has j (leaving k)) j js p in let t = keep-has (λ j. is_some (live_at k.modules j) && not (has j (staying k))) j k.order q.1 in absurd (both (is_some (live_at k.modules j)) (has j (staying k)) t.1 e)) (λ p. p) (cases_Bool (has j ds))
      where
        both : (a b : Bool) → (a && not b) ≡ true → b ≡ true → ⊥
        both true true p q = let z : ◌≡◌ {A = ℕ} 0 1 = cc in omega arith
        both true false p q = let z : ◌≡◌ {A = ℕ} 0 1 = cc in omega arith
        both false b p q = let z : ◌≡◌ {A = ℕ} 0 1 = cc in omega arith

    lives : (j : ℕ) → Live k.modules j → has j (staying k) ≡ true → Live (unload_all ds k.modules) j
    lives j h e = let t = live_is k.modules j h in is_live (unload_all ds k.modules) j t.0 (unload_stays ds k.modules j t.0 t.1 (kept j e))

    -- what wasn't unloaded stays
    in_staying : (i : ℕ) (x : Module) → live_at k.modules i ≡ Some x → has i ds ≡ false → has i (staying k) ≡ true
    in_staying i x e h = ⊎_elim (λ p. ⊎_elim (λ q. has_not i ds (has-keep (λ j. has j (leaving k)) i js p q) h) (λ q. q) (leaves_or_stays k w i (is_live k.modules i x e))) (λ p. p) (c i (is_live k.modules i x e))

-- a slot settled
put_hosts : (bs : List (Option Place)) (j : ℕ) (p : Place) (i : ℕ) → has i (hosts (slice_set bs j (Some p))) ≡ true → (has i (hosts bs) ≡ true) ⊎ (i ≡ p.host)
put_hosts [] j p i e = has_none i e
put_hosts (None ∷ bs) zero p i e = ⊎_elim inr inl (has_cases i p.host (hosts bs) e)
put_hosts (Some q ∷ bs) zero p i e = ⊎_elim inr (λ h. inl (has_there i q.host (hosts bs) h)) (has_cases i p.host (hosts bs) e)
put_hosts (None ∷ bs) (suc j) p i e = put_hosts bs j p i e
put_hosts (Some q ∷ bs) (suc j) p i e = ⊎_elim (λ h. inl (has_first i q.host (hosts bs) h)) (λ h. ⊎_elim (λ r. inl (has_there i q.host (hosts bs) r)) inr (put_hosts bs j p i h)) (has_cases i q.host (hosts (slice_set bs j (Some p))) e)

pub slot_keys : (k : Links) (me j : ℕ) (p : Place) → map key (slot_bound k me j p).modules ≡ map key k.modules
slot_keys k me j p = go (slice_get k.modules me) refl
  where
    go : (o : Option Module) → slice_get k.modules me ≡ o → map key (opt o k.modules (λ x. slice_set k.modules me (bound_to (slice_set x.bound j (Some p)) x))) ≡ map key k.modules
    go None e = refl
    go (Some x) e = put_key k.modules me x _ e refl

-- what a module is bound to once a slot was settled: what it was bound to, or the new place
pub slot_hosts : (k : Links) (me j : ℕ) (p : Place) (i a : ℕ) (x : Module) → live_at (slot_bound k me j p).modules i ≡ Some x → has a (hosts x.bound) ≡ true → ((y : Module) × (live_at k.modules i ≡ Some y) × (has a (hosts y.bound) ≡ true)) ⊎ (a ≡ p.host)
slot_hosts k me j p i a x e h = go (slice_get k.modules me) refl e
  where
    Goal : Type 0
    Goal = ((y : Module) × (live_at k.modules i ≡ Some y) × (has a (hosts y.bound) ≡ true)) ⊎ (a ≡ p.host)

    go : (o : Option Module) → slice_get k.modules me ≡ o → live_at (opt o k.modules (λ x. slice_set k.modules me (bound_to (slice_set x.bound j (Some p)) x))) i ≡ Some x → Goal
    go None q e = inl (x, e, h)
    go (Some y) q e = ⊎_elim here (λ n. inl (x, live_from k.modules i x (sym (slice_get-set_other k.modules me i z n) ∙ t.0) t.1, h)) (cases_eq i me)
      where
        z : Module
        z = bound_to (slice_set y.bound j (Some p)) y

        t : (slice_get (slice_set k.modules me z) i ≡ Some x) × (x.live ≡ true)
        t = live_inv (slice_set k.modules me z) i x e

        here : i ≡ me → Goal
        here n = let s : z ≡ x = same_Some _ _ (sym (slice_get-set_same k.modules me z (slice_get_within k.modules me y q)) ∙ ap (slice_get (slice_set k.modules me z)) (sym n) ∙ t.0) in ⊎_elim (λ r. inl (y, live_from k.modules i y (ap (slice_get k.modules) n ∙ q) (ap (λ m. m.live) s ∙ t.1), r)) inr (put_hosts y.bound j p a (subst (λ m. has a (hosts m.bound) ≡ true) (sym s) h))

slot_whole : (k : Links) (me j : ℕ) (p : Place) → Whole k → Live k.modules p.host → Whole (slot_bound k me j p)
slot_whole k me j p w l = record { linked = keeps_linked.by_slot k me j p w.linked (let t = live_is k.modules p.host l in slice_get_within k.modules p.host t.0 (live_inv k.modules p.host t.0 t.1).0); bound = λ i a x e h. lives a (⊎_elim (λ t. w.bound i a t.0 t.1 t.2) (λ q. subst (Live k.modules) (sym q) l) (slot_hosts k me j p i a x e h)); members = λ a e. lives a (w.members a e); one_each = one_keys k.modules (slot_bound k me j p).modules (slot_keys k me j p) w.one_each; ordered = λ a h. w.ordered a (LiveKeys (slot_bound k me j p).modules k.modules (slot_keys k me j p) a h); once = w.once }
  where
    lives : (a : ℕ) → Live k.modules a → Live (slot_bound k me j p).modules a
    lives a h = LiveKeys k.modules (slot_bound k me j p).modules (sym (slot_keys k me j p)) a h

-- a group while it is brought in, of the names ys
record Gathers (k : Links) (ys : List Name) (b : Brought) : Type 0 where
  members : (j : ℕ) → has j b.members ≡ true → Live b.modules j
  one_each : OneEach b.modules
  new : (j : ℕ) → has j b.new ≡ true → (x : Module) × (live_at b.modules j ≡ Some x) × (among x.lib.name ys ≡ true)
  new_members : Within b.new b.members
  covered : (j : ℕ) → Live b.modules j → Live k.modules j ⊎ (has j b.new ≡ true)

module _ (ls : List Library) (m : Room) (g : ℕ) (k : Links) (ys : List Name) where
  joined_gathers : (b : Brought) (x : Name) (j : ℕ) → find_loaded b.modules 0 x ≡ Some j → Gathers k ys b → Gathers k ys (joined b j)
  joined_gathers b x j e r = record { members = λ i h. ⊎_elim (r.members i) (λ p. ⊎_elim (λ q. subst (Live b.modules) (sym q) j_lives) (has_none i) (has_cases i j [] p)) (has-append b.members (j ∷ []) i h); one_each = r.one_each; new = r.new; new_members = λ i h. has_left b.members (j ∷ []) i (r.new_members i h); covered = r.covered }
    where
      j_lives : Live b.modules j
      j_lives = let t = loaded_is b.modules 0 x j e in let q : j ≡ t.0 = omega (arith, t.2) in is_live b.modules j t.1 (ap (live_at b.modules) q ∙ t.3)

  added_gathers : (b : Brought) (x : Name) (l : Library) → find_loaded b.modules 0 x ≡ None → find_library ls x ≡ Some l → among x ys ≡ true → Gathers k ys b → Gathers k ys (added m g b l)
  added_gathers b x l e f h r = record { members = λ i q. ⊎_elim (λ p. LiveLeft b.modules (y ∷ []) i (r.members i p)) (λ p. ⊎_elim (λ s. subst (Live (b.modules ++ (y ∷ []))) (sym s) last) (has_none i) (has_cases i n [] p)) (has-append b.members (n ∷ []) i q); one_each = one_each; new = λ i q. ⊎_elim (λ p. let t = r.new i p in (t.0, live_left b.modules (y ∷ []) i t.0 t.1, t.2)) (λ p. ⊎_elim (λ s. (y, ap (live_at (b.modules ++ (y ∷ []))) s ∙ last_is, subst (λ z. among z ys ≡ true) (sym (find_named ls x l f)) h)) (has_none i) (has_cases i n [] p)) (has-append b.new (n ∷ []) i q); new_members = λ i q. ⊎_elim (λ p. has_left b.members (n ∷ []) i (r.new_members i p)) (has_right b.members (n ∷ []) i) (has-append b.new (n ∷ []) i q); covered = λ i q. let t = live_is (b.modules ++ (y ∷ [])) i q in ⊎_elim (λ p. ⊎_elim inl (λ s. inr (has_left b.new (n ∷ []) i s)) (r.covered i (is_live b.modules i t.0 p))) (λ p. inr (has_right b.new (n ∷ []) i (has_first i n [] p.0))) (live_push b.modules y i t.0 t.1) }
    where
      y : Module
      y = unbound g l

      n : ℕ
      n = length b.modules

      last_is : live_at (b.modules ++ (y ∷ [])) n ≡ Some y
      last_is = live_from (b.modules ++ (y ∷ [])) n y (slice_get_last b.modules y) refl

      last : Live (b.modules ++ (y ∷ [])) n
      last = is_live (b.modules ++ (y ∷ [])) n y last_is

      other : (i : ℕ) (z : Module) → live_at b.modules i ≡ Some z → z.lib.name ≡ l.name → ⊥
      other i z p q = loaded_none b.modules 0 x e i z p (q ∙ find_named ls x l f)

      one_each : OneEach (b.modules ++ (y ∷ []))
      one_each i j u v p q s = ⊎_elim (λ a. ⊎_elim (λ c. r.one_each i j u v a c s) (λ c. absurd (other i u a (s ∙ ap (λ z. z.lib.name) (sym c.1)))) (live_push b.modules y j v q)) (λ a. ⊎_elim (λ c. absurd (other j v c (sym s ∙ ap (λ z. z.lib.name) (sym a.1)))) (λ c. a.0 ∙ sym c.0) (live_push b.modules y j v q)) (live_push b.modules y i u p)

  one_gathers : (b c : Brought) (x : Name) → among x ys ≡ true → Gathers k ys b → bring_one ls m g b x ≡ Some c → Gathers k ys c
  one_gathers b c x h r e = go (find_loaded b.modules 0 x) refl e
    where
      kept : (d : Brought) → fits m d ≡ Some c → Gathers k ys d → Gathers k ys c
      kept d q f = subst (Gathers k ys) (guard_inv (leb d.used m.words) d c q).1 f

      go : (o : Option ℕ) → find_loaded b.modules 0 x ≡ o → opt o (on_some (find_library ls x) (λ l. fits m (added m g b l))) (λ j. fits m (joined b j)) ≡ Some c → Gathers k ys c
      go None p q = let t = on_some_inv (find_library ls x) (λ l. fits m (added m g b l)) c q in kept (added m g b t.0) t.2 (added_gathers b x t.0 p t.1 h r)
      go (Some j) p q = kept (joined b j) q (joined_gathers b x j p r)

  all_gathers : (xs : List Name) (b c : Brought) → NamesIn xs ys → Gathers k ys b → bring_all ls m g xs b ≡ Some c → Gathers k ys c
  all_gathers [] b c h r e = subst (Gathers k ys) (same_Some _ _ e) r
  all_gathers (x ∷ xs) b c h r e = let t = on_some_inv (bring_one ls m g b x) (λ d. bring_all ls m g xs d) c e in all_gathers xs t.0 c (λ y p. h y (among_there y x xs p)) (one_gathers b t.0 x (h x (among_here x xs)) r t.1) t.2

-- a new module is in the order, since its name is in the order of names
init_has : (ms : List Module) (new : List ℕ) (xs : List Name) (x : Name) (j : ℕ) → among x xs ≡ true → find_loaded ms 0 x ≡ Some j → has j new ≡ true → has j (init_ids ms new xs) ≡ true
init_has ms new [] x j e f h = among_none x e
init_has ms new (y ∷ xs) x j e f h = ⊎_elim (λ p. here (find_loaded ms 0 y) (ap (find_loaded ms 0) (sym p) ∙ f)) (λ p. there (find_loaded ms 0 y) (init_has ms new xs x j p f h)) (among_cases x y xs e)
  where
    here : (o : Option ℕ) → o ≡ Some j → has j (opt o (init_ids ms new xs) (λ j. cond (has j new) (j ∷ init_ids ms new xs) (init_ids ms new xs))) ≡ true
    here o q = rw (q, h) (has_here j (init_ids ms new xs))

    chosen : (i : ℕ) (b : Bool) → has j (init_ids ms new xs) ≡ true → has j (cond b (i ∷ init_ids ms new xs) (init_ids ms new xs)) ≡ true
    chosen i true r = has_there j i (init_ids ms new xs) r
    chosen i false r = r

    there : (o : Option ℕ) → has j (init_ids ms new xs) ≡ true → has j (opt o (init_ids ms new xs) (λ j. cond (has j new) (j ∷ init_ids ms new xs) (init_ids ms new xs))) ≡ true
    there None r = r
    there (Some i) r = chosen i (has i new) r

-- and it came there by its name
init_name : (ms : List Module) (new : List ℕ) (xs : List Name) (j : ℕ) → has j (init_ids ms new xs) ≡ true → (has j new ≡ true) × ((y : Name) × (among y xs ≡ true) × (find_loaded ms 0 y ≡ Some j))
init_name ms new [] j e = has_none j e
init_name ms new (x ∷ xs) j e = go (find_loaded ms 0 x) refl e (init_name ms new xs j)
  where
    Goal : Type 0
    Goal = (has j new ≡ true) × ((y : Name) × (among y (x ∷ xs) ≡ true) × (find_loaded ms 0 y ≡ Some j))

    later : (has j new ≡ true) × ((y : Name) × (among y xs ≡ true) × (find_loaded ms 0 y ≡ Some j)) → Goal
    later t = (t.0, (t.1.0, among_there t.1.0 x xs t.1.1, t.1.2))

    test : (i : ℕ) → find_loaded ms 0 x ≡ Some i → (b : Bool) → has i new ≡ b → has j (cond b (i ∷ init_ids ms new xs) (init_ids ms new xs)) ≡ true → (has j (init_ids ms new xs) ≡ true → (has j new ≡ true) × ((y : Name) × (among y xs ≡ true) × (find_loaded ms 0 y ≡ Some j))) → Goal
    test i q true n h r = ⊎_elim (λ p. (ap (λ a. has a new) p ∙ n, (x, among_here x xs, q ∙ ap Some (sym p)))) (λ p. later (r p)) (has_cases j i (init_ids ms new xs) h)
    test i q false n h r = later (r h)

    go : (o : Option ℕ) → find_loaded ms 0 x ≡ o → has j (opt o (init_ids ms new xs) (λ j. cond (has j new) (j ∷ init_ids ms new xs) (init_ids ms new xs))) ≡ true → (has j (init_ids ms new xs) ≡ true → (has j new ≡ true) × ((y : Name) × (among y xs ≡ true) × (find_loaded ms 0 y ≡ Some j))) → Goal
    go None q h r = later (r h)
    go (Some i) q h r = test i q (has i new) refl h r

-- so that none comes twice where no name does
same_name : (ms : List Module) (x y : Name) (j : ℕ) → find_loaded ms 0 x ≡ Some j → find_loaded ms 0 y ≡ Some j → x ≡ y
same_name ms x y j p q = let a = loaded_is ms 0 x j p in let b = loaded_is ms 0 y j q in let n : a.0 ≡ b.0 = omega (arith, a.2, b.2) in let s : a.1 ≡ b.1 = same_Some _ _ (sym a.3 ∙ ap (live_at ms) n ∙ b.3) in sym a.4 ∙ ap (λ z. z.lib.name) s ∙ b.4

init_distinct : (ms : List Module) (new : List ℕ) (xs : List Name) → Once xs → Distinct (init_ids ms new xs)
init_distinct ms new [] o = tt
init_distinct ms new (x ∷ xs) o = go (find_loaded ms 0 x) refl (init_distinct ms new xs o.1)
  where
    fresh : (j : ℕ) → find_loaded ms 0 x ≡ Some j → has j (init_ids ms new xs) ≡ false
    fresh j q = ⊎_elim (λ p. let t = (init_name ms new xs j p).1 in among_not x xs (subst (λ z. among z xs ≡ true) (same_name ms t.0 x j t.2 q) t.1) o.0) (λ p. p) (cases_Bool (has j (init_ids ms new xs)))

    test : (j : ℕ) → find_loaded ms 0 x ≡ Some j → (b : Bool) → Distinct (init_ids ms new xs) → Distinct (cond b (j ∷ init_ids ms new xs) (init_ids ms new xs))
    test j q true r = (fresh j q, r)
    test j q false r = r

    go : (v : Option ℕ) → find_loaded ms 0 x ≡ v → Distinct (init_ids ms new xs) → Distinct (opt v (init_ids ms new xs) (λ j. cond (has j new) (j ∷ init_ids ms new xs) (init_ids ms new xs)))
    go None q r = r
    go (Some j) q r = test j q (has j new) r

-- refs are settled to what is live
targets_live : (k : Links) (me : ℕ) (cs : List Cell) (j : ℕ) → has j (hosts (map (ref_target k me) cs)) ≡ true → Live k.modules j
targets_live k me [] j e = has_none j e
targets_live k me (number n ∷ cs) j e = targets_live k me cs j e
targets_live k me (ref s n must ∷ cs) j e = go (resolve k me s) refl e (targets_live k me cs j)
  where
    go : (o : Option Place) → resolve k me s ≡ o → has j (hosts (o ∷ map (ref_target k me) cs)) ≡ true → (has j (hosts (map (ref_target k me) cs)) ≡ true → Live k.modules j) → Live k.modules j
    go None q e r = r e
    go (Some p) q e r = ⊎_elim (λ h. let t = resolve_first.live k me s p q in is_live k.modules j t.0 (ap (live_at k.modules) h ∙ t.1)) r (has_cases j p.host (hosts (map (ref_target k me) cs)) e)
targets_live k me (at n ∷ cs) j e = targets_live k me cs j e
targets_live k me (slot s ∷ cs) j e = targets_live k me cs j e
targets_live k me (named x ∷ cs) j e = targets_live k me cs j e
targets_live k me (instruction o ∷ cs) j e = targets_live k me cs j e

pub slice_get_split : {A : Type 0} (xs ys : List A) (i : ℕ) (z : A) → slice_get (xs ++ ys) i ≡ Some z → (slice_get xs i ≡ Some z) ⊎ ((d : ℕ) × (i ≡ length xs + d) × (slice_get ys d ≡ Some z))
slice_get_split [] ys i z e = inr (i, omega arith, e)
slice_get_split (x ∷ xs) ys zero z e = inl e
slice_get_split (x ∷ xs) ys (suc i) z e = ⊎_elim inl (λ t. inr (t.0, omega (arith, t.1), t.2)) (slice_get_split xs ys i z e)

pub bound_slice_get : (k : Links) (i : ℕ) (xs : List Module) (d : ℕ) (x : Module) → BoundFrom k i xs → slice_get xs d ≡ Some x → x.bound ≡ map (ref_target k (i + d)) x.lib.cells
bound_slice_get k i [] d x b e = absurd (none-some _ e)
bound_slice_get k i (y ∷ xs) zero x b e = let s : y ≡ x = same_Some _ _ e in let n : i ≡ i + 0 = omega arith in subst (λ m. m.bound ≡ map (ref_target k (i + 0)) m.lib.cells) s (subst (λ a. y.bound ≡ map (ref_target k a) y.lib.cells) n b.0)
bound_slice_get k i (y ∷ xs) (suc d) x b e = let n : suc i + d ≡ i + suc d = omega arith in subst (λ a. x.bound ≡ map (ref_target k a) x.lib.cells) n (bound_slice_get k (suc i) xs d x b.1 e)

open_push : (gs : List Group) (g : Group) (j : ℕ) → has j (open_members (gs ++ (g ∷ []))) ≡ true → (has j (open_members gs) ≡ true) ⊎ (has j g.members ≡ true)
open_push [] g j e = go g.opened e
  where
    go : (b : Bool) → has j (cond b g.members [] ++ []) ≡ true → (has j [] ≡ true) ⊎ (has j g.members ≡ true)
    go true e = ⊎_elim inr (has_none j) (has-append g.members [] j e)
    go false e = has_none j e
open_push (f ∷ gs) g j e = ⊎_elim (λ p. inl (has_left (cond f.opened f.members []) (open_members gs) j p)) (λ p. ⊎_elim (λ q. inl (has_right (cond f.opened f.members []) (open_members gs) j q)) inr (open_push gs g j p)) (has-append (cond f.opened f.members []) (open_members (gs ++ (g ∷ []))) j e)

-- the module that a name finds, where one of that name is live
loaded_as : (ms : List Module) (j : ℕ) (y : Module) → OneEach ms → live_at ms j ≡ Some y → find_loaded ms 0 y.lib.name ≡ Some j
loaded_as ms j y o e = go (find_loaded ms 0 y.lib.name) refl
  where
    go : (r : Option ℕ) → find_loaded ms 0 y.lib.name ≡ r → r ≡ Some j
    go None q = absurd (loaded_none ms 0 y.lib.name q j y e refl)
    go (Some i) q = let t = loaded_is ms 0 y.lib.name i q in let n : i ≡ t.0 = omega (arith, t.2) in ap Some (n ∙ o t.0 j t.1 y t.3 e t.4)

load_gathers : (ls : List Library) (m : Room) (x : Name) (global : Bool) (k : Links) (l : Loaded) → Whole k → (p : Parts ls m x global k l) → Gathers k p.names p.brought
load_gathers ls m x global k l w p = all_gathers ls m (length k.groups) k p.names p.names (nothing_yet k) p.brought (λ y h. h) (record { members = λ j h. has_none j h; one_each = w.one_each; new = λ j h. has_none j h; new_members = λ j h. h; covered = λ j h. inl h }) p.brings

load_keys : (ls : List Library) (m : Room) (x : Name) (global : Bool) (k : Links) (l : Loaded) → (p : Parts ls m x global k l) → map key l.links.modules ≡ map key p.brought.modules
load_keys ls m x global k l p = ap (λ q. map key q.links.modules) p.is ∙ bind_refs_keys (with_group k p.brought global) p.brought.new p.brought.modules

load_whole : (ls : List Library) (m : Room) (x : Name) (global : Bool) (k : Links) (l : Loaded) → Whole k → load ls m x global k ≡ Some l → Whole l.links
load_whole ls m x global k l w e = record { linked = keeps_linked.by_load ls m x global k l w.linked e; bound = bound; members = members; one_each = one_keys b.modules l.links.modules keys g.one_each; ordered = ordered_in; once = once }
  where
    p : Parts ls m x global k l
    p = load_parts ls m x global k l e

    a : Loads ls m k l
    a = load_appends ls m x global k l e

    b : Brought
    b = p.brought

    g : Gathers k p.names b
    g = load_gathers ls m x global k l w p

    keys : map key l.links.modules ≡ map key b.modules
    keys = load_keys ls m x global k l p

    old_lives : (j : ℕ) → Live k.modules j → Live l.links.modules j
    old_lives j h = subst (λ ms. Live ms j) (sym a.modules) (LiveLeft k.modules a.fresh j h)

    bound : (i j : ℕ) (y : Module) → live_at l.links.modules i ≡ Some y → has j (hosts y.bound) ≡ true → Live l.links.modules j
    bound i j y q h = let t = live_inv l.links.modules i y q in ⊎_elim (λ n. old_lives j (w.bound i j y (live_from k.modules i y n t.1) h)) (λ n. targets_live l.links (length k.modules + n.0) y.lib.cells j (subst (λ bs. has j (hosts bs) ≡ true) (bound_slice_get l.links (length k.modules) a.fresh n.0 y a.bound n.2) h)) (slice_get_split k.modules a.fresh i y (ap (λ ms. slice_get ms i) (sym a.modules) ∙ t.0))

    members : (j : ℕ) → has j (open_members l.links.groups) ≡ true → Live l.links.modules j
    members j h = ⊎_elim (λ q. old_lives j (w.members j q)) (λ q. LiveKeys b.modules l.links.modules (sym keys) j (g.members j q)) (open_push k.groups (record { members = b.members; opened = true; global = global }) j (subst (λ q. has j (open_members q.links.groups) ≡ true) p.is h))

    ordered_in : (j : ℕ) → Live l.links.modules j → has j l.links.order ≡ true
    ordered_in j h = subst (λ q. has j q.links.order ≡ true) (sym p.is) (⊎_elim (λ q. has_left k.order js j (w.ordered j q)) (λ q. has_right k.order js j (came q)) (g.covered j (LiveKeys l.links.modules b.modules keys j h)))
      where
        js : List ℕ
        js = init_ids b.modules b.new (init_order ls x)

        came : has j b.new ≡ true → has j js ≡ true
        came q = let t = g.new j q in init_has b.modules b.new (init_order ls x) t.0.lib.name j ((order_right ls x p.names p.closed).same t.0.lib.name ∙ t.2) (loaded_as b.modules j t.0 g.one_each t.1) q

    once : Distinct l.links.order
    once = subst (λ q. Distinct q.links.order) (sym p.is) (distinct_append k.order (init_ids b.modules b.new (init_order ls x)) w.once (init_distinct b.modules b.new (init_order ls x) (order_right ls x p.names p.closed).once) apart)
      where
        apart : (j : ℕ) → has j k.order ≡ true → has j (init_ids b.modules b.new (init_order ls x)) ≡ false
        apart j h = ⊎_elim (λ q. absurd (clash q)) (λ q. q) (cases_Bool (has j (init_ids b.modules b.new (init_order ls x))))
          where
            clash : has j (init_ids b.modules b.new (init_order ls x)) ≡ true → ⊥
            clash q = omega (arith, below_has (length k.modules) j k.order w.linked.order h, up_from_least (length k.modules) (length a.fresh) j (subst (λ is. has j is ≡ true) (sym (ap (λ r. r.new) p.is) ∙ a.new) (init_name b.modules b.new (init_order ls x) j q).0))

first_whole : (u : ℕ) → Whole (record { modules = []; groups = []; order = []; used = u })
first_whole u = record { linked = record { bound = tt; members = tt; order = tt }; bound = λ i j x e h. absurd (none-some _ e); members = λ j e. has_none j e; one_each = λ i j x y p q h. absurd (none-some _ p); ordered = λ j h. let z : ◌≡◌ {A = ℕ} 0 1 = cc in absurd (omega arith); once = tt }

pub keeps_whole : KeepsWhole
keeps_whole = record { at_first = first_whole; by_load = load_whole; by_slot = slot_whole; by_close = close_whole; by_unload = unload_whole }

-- what one of js is bound to
bound_of_inv : (ms : List Module) (js : List ℕ) (j : ℕ) → has j (bound_of ms js) ≡ true → (i : ℕ) × (x : Module) × (has i js ≡ true) × (live_at ms i ≡ Some x) × (has j (hosts x.bound) ≡ true)
bound_of_inv ms [] j e = has_none j e
bound_of_inv ms (i ∷ js) j e = ⊎_elim (λ p. here (live_at ms i) refl p) (λ p. let t = bound_of_inv ms js j p in (t.0, t.1, has_there t.0 i js t.2, t.3, t.4)) (has-append (opt (live_at ms i) [] (λ x. hosts x.bound)) (bound_of ms js) j e)
  where
    here : (o : Option Module) → live_at ms i ≡ o → has j (opt o [] (λ x. hosts x.bound)) ≡ true → (a : ℕ) × (x : Module) × (has a (i ∷ js) ≡ true) × (live_at ms a ≡ Some x) × (has j (hosts x.bound) ≡ true)
    here None q h = has_none j h
    here (Some x) q h = (i, x, has_here i js, q, h)

-- where groups stay open, modules live and bindings stand, what stays goes on staying
pub staying_grows : (k q : Links) → Linked q → Within (open_members k.groups) (open_members q.groups) → ((i : ℕ) (x : Module) → live_at k.modules i ≡ Some x → (y : Module) × (live_at q.modules i ≡ Some y) × Within (hosts x.bound) (hosts y.bound)) → Within (staying k) (staying q)
staying_grows k q l g h = stays_least.least k (staying q) (λ j e. stays_least.roots q j (g j e)) (λ j e. let t = bound_of_inv k.modules (staying q) j e in let y = h t.0 t.1 t.3 in stays_least.closed q l j (bound_in q.modules (staying q) t.0 j t.2 (subst (λ o. has j (opt o [] (λ x. hosts x.bound)) ≡ true) (sym y.1) (y.2 j t.4))))

open_left : (gs hs : List Group) → Within (open_members gs) (open_members (gs ++ hs))
open_left [] hs j e = has_none j e
open_left (g ∷ gs) hs j e = ⊎_elim (has_left (cond g.opened g.members []) (open_members (gs ++ hs)) j) (λ p. has_right (cond g.opened g.members []) (open_members (gs ++ hs)) j (open_left gs hs j p)) (has-append (cond g.opened g.members []) (open_members gs) j e)

open_right : (gs hs : List Group) → Within (open_members hs) (open_members (gs ++ hs))
open_right [] hs j e = e
open_right (g ∷ gs) hs j e = has_right (cond g.opened g.members []) (open_members (gs ++ hs)) j (open_right gs hs j e)

-- a load: what stayed goes on staying, and what is new stays
pub load_stays : (ls : List Library) (m : Room) (x : Name) (global : Bool) (k : Links) (l : Loaded) → Whole k → load ls m x global k ≡ Some l → Within (staying k) (staying l.links)
load_stays ls m x global k l w e = staying_grows k l.links (keeps_linked.by_load ls m x global k l w.linked e) (λ j h. subst (λ q. has j (open_members q.links.groups) ≡ true) (sym p.is) (open_left k.groups _ j h)) (λ i y h. (y, subst (λ ms. live_at ms i ≡ Some y) (sym a.modules) (live_left k.modules a.fresh i y h), λ j q. q))
  where
    p : Parts ls m x global k l
    p = load_parts ls m x global k l e

    a : Loads ls m k l
    a = load_appends ls m x global k l e

pub new_stays : (ls : List Library) (m : Room) (x : Name) (global : Bool) (k : Links) (l : Loaded) → Whole k → load ls m x global k ≡ Some l → (i : ℕ) → Live l.links.modules i → Live k.modules i ⊎ (has i (staying l.links) ≡ true)
new_stays ls m x global k l w e i h = ⊎_elim inl (λ q. inr (stays_least.roots l.links i (subst (λ r. has i (open_members r.links.groups) ≡ true) (sym p.is) (open_right k.groups _ i (has_left p.brought.members [] i (g.new_members i q)))))) (g.covered i (LiveKeys l.links.modules p.brought.modules (load_keys ls m x global k l p) i h))
  where
    p : Parts ls m x global k l
    p = load_parts ls m x global k l e

    g : Gathers k p.names p.brought
    g = load_gathers ls m x global k l w p

-- a slot settled that wasn't: what stayed goes on staying
put_more : (bs : List (Option Place)) (j : ℕ) (p : Place) → slice_get bs j ≡ Some None → Within (hosts bs) (hosts (slice_set bs j (Some p)))
put_more [] j p e = λ i h. h
put_more (None ∷ bs) zero p e = λ i h. has_there i p.host (hosts bs) h
put_more (Some q ∷ bs) zero p e = absurd (none-some _ (sym (same_Some _ _ e)))
put_more (None ∷ bs) (suc j) p e = put_more bs j p e
put_more (Some q ∷ bs) (suc j) p e = λ i h. ⊎_elim (has_first i q.host (hosts (slice_set bs j (Some p)))) (λ r. has_there i q.host (hosts (slice_set bs j (Some p))) (put_more bs j p e i r)) (has_cases i q.host (hosts bs) h)

pub slot_stays : (k : Links) (me j : ℕ) (p : Place) → Whole k → Live k.modules p.host → ((x : Module) → slice_get k.modules me ≡ Some x → slice_get x.bound j ≡ Some None) → Within (staying k) (staying (slot_bound k me j p))
slot_stays k me j p w l f = staying_grows k (slot_bound k me j p) (slot_whole k me j p w l).linked (λ i e. e) more
  where
    more : (i : ℕ) (x : Module) → live_at k.modules i ≡ Some x → (y : Module) × (live_at (slot_bound k me j p).modules i ≡ Some y) × Within (hosts x.bound) (hosts y.bound)
    more i x e = go (slice_get k.modules me) refl
      where
        t : (slice_get k.modules i ≡ Some x) × (x.live ≡ true)
        t = live_inv k.modules i x e

        go : (o : Option Module) → slice_get k.modules me ≡ o → (y : Module) × (live_at (opt o k.modules (λ x. slice_set k.modules me (bound_to (slice_set x.bound j (Some p)) x))) i ≡ Some y) × Within (hosts x.bound) (hosts y.bound)
        go None q = (x, e, λ a h. h)
        go (Some z) q = ⊎_elim (λ n. let s : z ≡ x = same_Some _ _ (sym q ∙ ap (slice_get k.modules) (sym n) ∙ t.0) in (v, live_from (slice_set k.modules me v) i v (ap (slice_get (slice_set k.modules me v)) n ∙ slice_get-set_same k.modules me v (slice_get_within k.modules me z q)) (ap (λ m. m.live) s ∙ t.1), subst (λ m. Within (hosts m.bound) (hosts v.bound)) s (put_more z.bound j p (f z q)))) (λ n. (x, live_from (slice_set k.modules me v) i x (slice_get-set_other k.modules me i v n ∙ t.0) t.1, λ a h. h)) (cases_eq i me)
          where
            v : Module
            v = bound_to (slice_set z.bound j (Some p)) z
