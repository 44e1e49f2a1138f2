-- Links are whole in every state that a program comes to.
use Rattle.std.proofs.lemmas.Option.{slice_get_within, none-some, same_Some}
use Rattle.std.specs.List.{AllByRecursion}
use Rattle.std.specs.Prelude.{None, Option, Some, filter, slice_get, slice_set}
use Rattle.std.proofs.Common.{◌≡◌, ℕ, zero, suc, ◌+◌, Bool, true, false, not, ◌&&◌, eqb, ◌⊎◌, List, [], ◌∷◌, ◌++◌, map, length, sym, refl, ap, ◌∙◌, subst, inl, inr, ⊎_elim, arith}
use Rattle.base.specs.Choices.{opt, on_some}
use Rattle.base.specs.Lists.{has, Within}
use Rattle.base.proofs.Choices.{on_some_inv}
use Rattle.base.proofs.Lists.{slice_get_left, slice_get_right, slice_get-set_same, slice_get-set_other, all_like}
use Rattle.library.specs.Library.{Symbol, Cell, number, ref, at, slot, named, instruction, Library}
use Rattle.links.specs.Links.{Place, Module, Links, Room}
use Rattle.links.specs.Load.{ref_target, bound_to, Loaded, load}
use Rattle.links.specs.Close.{leaving, unloaded, unload_all, unload, close_group, is_open, slot_bound}
use Rattle.links.specs.Laws.{up_from, Loads}
use Rattle.links.specs.Whole.{staying, Live, Whole}
use Rattle.links.proofs.Lives.{is_live, LiveKeys}
use Rattle.links.proofs.Loading.{load_appends}
use Rattle.links.proofs.Resolved.{resolve_first}
use Rattle.links.proofs.Whole.{keeps_whole, slice_get_split, bound_slice_get, slot_keys, load_stays, new_stays, slot_stays, leaves_or_stays}
use Rattle.meaning.specs.State.{Value, place, Held, val, link, Sequel, gives, drops, ends, stops, Frame, back, pending, Core, State, with_core, Next, first_helds, new_cells}
use Rattle.meaning.specs.Steps.{put_cell, is_drops, closing}
use Rattle.meaning.specs.Runs.{blank, begins}
use Rattle.meaning.specs.Always.{state_of, RunsWhole}
use Rattle.meaning.proofs.Changes.{Framed, kept, noted, came_back, taken, opened, cleared, Change, no_meaning, is_lost, has_ended, runs, writes, shows, opens_group, binds_slot, begins_close, does_close, after_by}
use Rattle.meaning.proofs.Grows.{begins_inv}
use Rattle.meaning.proofs.Parts.{part_at, helds, bonds, part_other, part_same, part_any, held_part}
use Rattle.std.proofs.lemmas.List.{length-append, length-set}
use Rattle.std.proofs.lemmas.Bool.{cases_eq, and_parts, not-true, or_parts}

-- a slot that isn't settled in the cells has no binding
abbrev Unsettled : List (List Held) → List Module → Type 0
Unsettled css ms = (i c : ℕ) (y : Symbol) → part_at helds css i c ≡ Some (link y None) → part_at bonds ms i c ≡ Some None

-- while finis of a close are called, all that is live is to go or stays
abbrev Covers : Links → Frame → Type 0
Covers k (back p) = Unit
Covers k (pending ps (gives r v p)) = Unit
Covers k (pending ps (drops js r p)) = (i : ℕ) → Live k.modules i → (has i js ≡ true) ⊎ (has i (staying k) ≡ true)
Covers k (pending ps (ends n)) = Unit
Covers k (pending ps (stops n)) = Unit

-- finis of one close at a time
abbrev Alone : List Frame → Type 0
Alone [] = Unit
Alone (f ∷ fs) = (is_drops f ≡ true → closing fs ≡ false) × Alone fs

record Sane (s : State) : Type 0 where
  whole : Whole s.links
  sized : length s.cells ≡ length s.links.modules
  unsettled : Unsettled s.cells s.links.modules
  covers : AllByRecursion (Covers s.links) s.core.frames
  alone : Alone s.core.frames

covers_more : (k q : Links) → ((i : ℕ) → Live q.modules i → Live k.modules i ⊎ (has i (staying q) ≡ true)) → Within (staying k) (staying q) → (fs : List Frame) → AllByRecursion (Covers k) fs → AllByRecursion (Covers q) fs
covers_more k q l g fs c = all_like (Covers k) (Covers q) fs one c
  where
    one : (f : Frame) → Covers k f → Covers q f
    one (back p) h = tt
    one (pending ps (gives r v p)) h = tt
    one (pending ps (drops js r p)) h = λ i e. ⊎_elim (λ n. ⊎_elim inl (λ t. inr (g i t)) (h i n)) inr (l i e)
    one (pending ps (ends n)) h = tt
    one (pending ps (stops n)) h = tt

covers_none : (k : Links) (fs : List Frame) → closing fs ≡ false → AllByRecursion (Covers k) fs
covers_none k [] e = tt
covers_none k (f ∷ fs) e = let p = or_parts (is_drops f) (closing fs) e in (one f p.0, covers_none k fs p.1)
  where
    one : (f : Frame) → is_drops f ≡ false → Covers k f
    one (back p) h = tt
    one (pending ps (gives r v p)) h = tt
    one (pending ps (drops js r p)) h = let z : ◌≡◌ {A = ℕ} 0 1 = cc in absurd (omega arith)
    one (pending ps (ends n)) h = tt
    one (pending ps (stops n)) h = tt

put_cells_length : (css : List (List Held)) (i k : ℕ) (h : Held) → length (put_cell css i k h) ≡ length css
put_cells_length css i k h = go (slice_get css i)
  where
    go : (o : Option (List Held)) → length (opt o css (λ hs. slice_set css i (slice_set hs k h))) ≡ length css
    go None = refl
    go (Some hs) = length-set css i (slice_set hs k h)

-- a write puts no slot anywhere
write_unsettled : (css : List (List Held)) (ms : List Module) (i k : ℕ) (v : Value) → Unsettled css ms → Unsettled (put_cell css i k (val v)) ms
write_unsettled css ms i k v u a c y e = ⊎_elim (u a c y) (λ p. let z : ◌≡◌ {A = ℕ} 0 1 = cc in absurd (omega arith)) (part_any helds (λ hs. slice_set hs k (val v)) k (val v) (λ hs. refl) css i a c (link y None) e)

-- a slot that is settled gets its binding
bind_unsettled : (css : List (List Held)) (q : Links) (me k : ℕ) (y : Symbol) (v : Value) (p : Place) → part_at helds css me k ≡ Some (link y None) → Unsettled css q.modules → Unsettled (put_cell css me k (link y (Some v))) (slot_bound q me k p).modules
bind_unsettled css q me k y v p o u a c z e = ⊎_elim (λ n. ⊎_elim (λ s. absurd (clash n s)) (λ s. other (λ _ r. s r)) (cases_eq c k)) (λ n. other (λ r _. n r)) (cases_eq a me)
  where
    clash : a ≡ me → c ≡ k → ⊥
    clash n s = let t : part_at helds (put_cell css me k (link y (Some v))) a c ≡ Some (link y (Some v)) = (λ i. part_at helds (put_cell css me k (link y (Some v))) (n i) (s i)) ∙ part_same helds (λ hs. slice_set hs k (link y (Some v))) k (link y (Some v)) (λ hs. refl) css me (link y None) o in let w : ◌≡◌ {A = ℕ} 0 1 = cc in omega arith

    other : (a ≡ me → c ≡ k → ⊥) → part_at bonds (slot_bound q me k p).modules a c ≡ Some None
    other n = part_other bonds (λ x. bound_to (slice_set x.bound k (Some p)) x) k (Some p) (λ x. refl) q.modules me a c n ∙ u a c z (sym (part_other helds (λ hs. slice_set hs k (link y (Some v))) k (link y (Some v)) (λ hs. refl) css me a c n) ∙ e)

-- unloading leaves bindings as they are
unload_bonds : (ds : List ℕ) (ms : List Module) (i c : ℕ) → part_at bonds (unload_all ds ms) i c ≡ part_at bonds ms i c
unload_bonds [] ms i c = refl
unload_bonds (d ∷ ds) ms i c = unload_bonds ds (opt (slice_get ms d) ms (λ x. slice_set ms d (unloaded x))) i c ∙ go (slice_get ms d) refl
  where
    go : (o : Option Module) → slice_get ms d ≡ o → part_at bonds (opt o ms (λ x. slice_set ms d (unloaded x))) i c ≡ part_at bonds ms i c
    go None q = refl
    go (Some x) q = ⊎_elim (λ n. ap (λ o. on_some o (λ x. slice_get x.bound c)) (ap (slice_get (slice_set ms d (unloaded x))) n ∙ slice_get-set_same ms d (unloaded x) (slice_get_within ms d x q)) ∙ sym (ap (λ o. on_some o (λ x. slice_get x.bound c)) (ap (slice_get ms) n ∙ q))) (λ n. ap (λ o. on_some o (λ x. slice_get x.bound c)) (slice_get-set_other ms d i (unloaded x) n)) (cases_eq i d)

pub unload_length : (ds : List ℕ) (ms : List Module) → length (unload_all ds ms) ≡ length ms
unload_length [] ms = refl
unload_length (d ∷ ds) ms = unload_length ds (opt (slice_get ms d) ms (λ x. slice_set ms d (unloaded x))) ∙ go (slice_get ms d)
  where
    go : (o : Option Module) → length (opt o ms (λ x. slice_set ms d (unloaded x))) ≡ length ms
    go None = refl
    go (Some x) = length-set ms d (unloaded x)

pub slot_length : (k : Links) (me j : ℕ) (p : Place) → length (slot_bound k me j p).modules ≡ length k.modules
slot_length k me j p = go (slice_get k.modules me)
  where
    go : (o : Option Module) → length (opt o k.modules (λ x. slice_set k.modules me (bound_to (slice_set x.bound j (Some p)) x))) ≡ length k.modules
    go None = refl
    go (Some x) = length-set k.modules me (bound_to (slice_set x.bound j (Some p)) x)

-- cells of new modules: only slots are unsettled, and they have no binding
slot_first : (k : Links) (me : ℕ) (cs : List Cell) (c : ℕ) (y : Symbol) → slice_get (first_helds k me cs) c ≡ Some (link y None) → slice_get (map (ref_target k me) cs) c ≡ Some None
slot_first k me [] c y e = absurd (none-some _ e)
slot_first k me (number n ∷ cs) zero y e = let z : ◌≡◌ {A = ℕ} 0 1 = cc in absurd (omega arith)
slot_first k me (ref s n must ∷ cs) zero y e = let z : ◌≡◌ {A = ℕ} 0 1 = cc in absurd (omega arith)
slot_first k me (at n ∷ cs) zero y e = let z : ◌≡◌ {A = ℕ} 0 1 = cc in absurd (omega arith)
slot_first k me (slot s ∷ cs) zero y e = refl
slot_first k me (named x ∷ cs) zero y e = let z : ◌≡◌ {A = ℕ} 0 1 = cc in absurd (omega arith)
slot_first k me (instruction o ∷ cs) zero y e = let z : ◌≡◌ {A = ℕ} 0 1 = cc in absurd (omega arith)
slot_first k me (number n ∷ cs) (suc c) y e = slot_first k me cs c y e
slot_first k me (ref s n must ∷ cs) (suc c) y e = slot_first k me cs c y e
slot_first k me (at n ∷ cs) (suc c) y e = slot_first k me cs c y e
slot_first k me (slot s ∷ cs) (suc c) y e = slot_first k me cs c y e
slot_first k me (named x ∷ cs) (suc c) y e = slot_first k me cs c y e
slot_first k me (instruction o ∷ cs) (suc c) y e = slot_first k me cs c y e

new_cells_length : (k : Links) (is : List ℕ) → length (new_cells k is) ≡ length is
new_cells_length k [] = refl
new_cells_length k (i ∷ is) = ap suc (new_cells_length k is)

up_from_length : (a n : ℕ) → length (up_from a n) ≡ n
up_from_length a zero = refl
up_from_length a (suc n) = ap suc (up_from_length (suc a) n)

new_cells_slice_get : (k : Links) (a n d : ℕ) (hs : List Held) → slice_get (new_cells k (up_from a n)) d ≡ Some hs → hs ≡ opt (slice_get k.modules (a + d)) [] (λ x. first_helds k (a + d) x.lib.cells)
new_cells_slice_get k a zero d hs e = absurd (none-some _ e)
new_cells_slice_get k a (suc n) zero hs e = let s : a ≡ a + 0 = omega arith in subst (λ b. hs ≡ opt (slice_get k.modules b) [] (λ x. first_helds k b x.lib.cells)) s (sym (same_Some _ _ e))
new_cells_slice_get k a (suc n) (suc d) hs e = let s : suc a + d ≡ a + suc d = omega arith in subst (λ b. hs ≡ opt (slice_get k.modules b) [] (λ x. first_helds k b x.lib.cells)) s (new_cells_slice_get k (suc a) n d hs e)

load_unsettled : (ls : List Library) (m : Room) (x : _) (global : Bool) (k : Links) (l : Loaded) (css : List (List Held)) → load ls m x global k ≡ Some l → length css ≡ length k.modules → Unsettled css k.modules → Unsettled (css ++ new_cells l.links l.new) l.links.modules
load_unsettled ls m x global k l css e z u i c y h = let t = on_some_inv (slice_get (css ++ new_cells l.links l.new) i) (λ hs. slice_get hs c) (link y None) h in ⊎_elim (old t.0 t.2) (new t.0 t.2) (slice_get_split css (new_cells l.links l.new) i t.0 t.1)
  where
    a : Loads ls m k l
    a = load_appends ls m x global k l e

    old : (hs : List Held) → slice_get hs c ≡ Some (link y None) → slice_get css i ≡ Some hs → part_at bonds l.links.modules i c ≡ Some None
    old hs q n = let r = u i c y (ap (λ o. on_some o (λ hs. slice_get hs c)) n ∙ q) in let t = on_some_inv (slice_get k.modules i) (λ x. slice_get x.bound c) None r in ap (λ o. on_some o (λ x. slice_get x.bound c)) (ap (λ ms. slice_get ms i) a.modules ∙ slice_get_left k.modules a.fresh i t.0 t.1) ∙ t.2

    new : (hs : List Held) → slice_get hs c ≡ Some (link y None) → (d : ℕ) × (i ≡ length css + d) × (slice_get (new_cells l.links l.new) d ≡ Some hs) → part_at bonds l.links.modules i c ≡ Some None
    new hs q n = go (slice_get l.links.modules (length k.modules + n.0)) refl (new_cells_slice_get l.links (length k.modules) (length a.fresh) n.0 hs (ap (λ is. slice_get (new_cells l.links is) n.0) (sym a.new) ∙ n.2))
      where
        at_i : i ≡ length k.modules + n.0
        at_i = omega (arith, z, n.1)

        go : (o : Option Module) → slice_get l.links.modules (length k.modules + n.0) ≡ o → hs ≡ opt o [] (λ x. first_helds l.links (length k.modules + n.0) x.lib.cells) → part_at bonds l.links.modules i c ≡ Some None
        go None p r = absurd (none-some _ (sym (ap (λ zs. slice_get zs c) r) ∙ q))
        go (Some v) p r = ap (λ o. on_some o (λ x. slice_get x.bound c)) (ap (slice_get l.links.modules) at_i ∙ p) ∙ ap (λ bs. slice_get bs c) (bound_slice_get l.links (length k.modules) a.fresh n.0 v a.bound (sym (slice_get_right k.modules a.fresh n.0) ∙ ap (λ ms. slice_get ms (length k.modules + n.0)) (sym a.modules) ∙ p)) ∙ slot_first l.links (length k.modules + n.0) v.lib.cells c y (sym (ap (λ zs. slice_get zs c) r) ∙ q)

load_sized : (ls : List Library) (m : Room) (x : _) (global : Bool) (k : Links) (l : Loaded) (css : List (List Held)) → load ls m x global k ≡ Some l → length css ≡ length k.modules → length (css ++ new_cells l.links l.new) ≡ length l.links.modules
load_sized ls m x global k l css e z = let a = load_appends ls m x global k l e in omega (arith, z, length-append css (new_cells l.links l.new), new_cells_length l.links l.new, ap length a.new, up_from_length (length k.modules) (length a.fresh), ap length a.modules, length-append k.modules a.fresh)

-- one pending call fewer
covers_next : (k : Links) (p : Place) (ps : List Place) (f : Sequel) → Covers k (pending (p ∷ ps) f) → Covers k (pending ps f)
covers_next k p ps (gives r v q) h = h
covers_next k p ps (drops js r q) h = h
covers_next k p ps (ends n) h = h
covers_next k p ps (stops n) h = h

drops_next : (p : Place) (ps : List Place) (f : Sequel) → is_drops (pending ps f) ≡ is_drops (pending (p ∷ ps) f)
drops_next p ps (gives r v q) = refl
drops_next p ps (drops js r q) = refl
drops_next p ps (ends n) = refl
drops_next p ps (stops n) = refl

never : {A : Type 0} → false ≡ true → A
never e = let z : ◌≡◌ {A = ℕ} 0 1 = cc in absurd (omega arith)

module _ (ls : List Library) (m : Room) (s : State) (r : Sane s) where
  -- other frames, the rest as it was
  same_links : (fs : List Frame) → AllByRecursion (Covers s.links) fs → Alone fs → (t : State) → t.links ≡ s.links → t.cells ≡ s.cells → t.core.frames ≡ fs → Sane t
  same_links fs c a t p q f = record { whole = subst Whole (sym p) r.whole; sized = ap length q ∙ r.sized ∙ ap (λ k. length k.modules) (sym p); unsettled = subst (Unsettled t.cells) (ap (λ k. k.modules) (sym p)) (subst (λ css. Unsettled css s.links.modules) (sym q) r.unsettled); covers = subst (AllByRecursion (Covers t.links)) (sym f) (subst (λ k. AllByRecursion (Covers k) fs) (sym p) c); alone = subst Alone (sym f) a }

  -- the core moves on
  frames_sane : (c : Core) → Framed s c → Sane (with_core s c)
  frames_sane c (kept e) = same_links s.core.frames r.covers r.alone _ refl refl e
  frames_sane c (noted p e) = same_links (back p ∷ s.core.frames) (tt, r.covers) (never, r.alone) _ refl refl e
  frames_sane c (came_back p fs e h) = same_links fs (subst (AllByRecursion (Covers s.links)) e r.covers).1 (subst Alone e r.alone).1 _ refl refl h
  frames_sane c (taken p ps f fs e h) = let cs = subst (AllByRecursion (Covers s.links)) e r.covers in let al = subst Alone e r.alone in same_links (pending ps f ∷ fs) (covers_next s.links p ps f cs.0, cs.1) ((λ q. al.0 (sym (drops_next p ps f) ∙ q)), al.1) _ refl refl h
  frames_sane c (opened a v p fs e h) = same_links fs (subst (AllByRecursion (Covers s.links)) e r.covers).1 (subst Alone e r.alone).1 _ refl refl h
  frames_sane c (cleared ps v e) = same_links (pending ps (stops v) ∷ []) (tt, tt) ((λ z. refl), tt) _ refl refl e

  change_sane : (n : Next) → Change ls m s n → Sane (state_of n)
  change_sane n no_meaning = r
  change_sane n is_lost = r
  change_sane n (has_ended v) = r
  change_sane n (runs c f) = frames_sane c f
  change_sane n (does_close c js a p fs e h) = let cs = subst (AllByRecursion (Covers s.links)) e r.covers in let al = subst Alone e r.alone in record { whole = keeps_whole.by_unload s.links js r.whole cs.0; sized = r.sized ∙ sym (unload_length (filter (λ j. has j (leaving s.links)) js) s.links.modules); unsettled = λ i d y q. unload_bonds (filter (λ j. has j (leaving s.links)) js) s.links.modules i d ∙ r.unsettled i d y q; covers = subst (AllByRecursion (Covers (unload js s.links))) (sym h) (covers_none (unload js s.links) fs (al.0 refl)); alone = subst Alone (sym h) al.1 }
  change_sane n (writes c i k old v q e) = record { whole = r.whole; sized = put_cells_length s.cells i k (val v) ∙ r.sized; unsettled = write_unsettled s.cells s.links.modules i k v r.unsettled; covers = subst (AllByRecursion (Covers s.links)) (sym e) r.covers; alone = subst Alone (sym e) r.alone }
  change_sane n (shows c is o e) = same_links s.core.frames r.covers r.alone _ refl refl e
  change_sane n (opens_group c x g l a v p e h) = record { whole = keeps_whole.by_load ls m x g s.links l r.whole e; sized = load_sized ls m x g s.links l s.cells e r.sized; unsettled = load_unsettled ls m x g s.links l s.cells e r.sized r.unsettled; covers = subst (AllByRecursion (Covers l.links)) (sym h) (tt, covers_more s.links l.links (new_stays ls m x g s.links l r.whole e) (load_stays ls m x g s.links l r.whole e) s.core.frames r.covers); alone = subst Alone (sym h) (never, r.alone) }
  change_sane n (begins_close c h a p e q) = record { whole = w; sized = r.sized; unsettled = r.unsettled; covers = subst (AllByRecursion (Covers k)) (sym q) (leaves_or_stays k w, covers_none k s.core.frames lone); alone = subst Alone (sym q) ((λ z. lone), r.alone) }
    where
      k : Links
      k = close_group s.links h

      w : Whole (close_group s.links h)
      w = keeps_whole.by_close s.links h r.whole

      lone : closing s.core.frames ≡ false
      lone = not-true (closing s.core.frames) (and_parts (is_open s.links h) (not (closing s.core.frames)) (and_parts (not (eqb h 0)) (is_open s.links h && not (closing s.core.frames)) e).1).1
  change_sane n (binds_slot c k y p q e h f) = record { whole = keeps_whole.by_slot s.links me k p r.whole lives; sized = put_cells_length s.cells me k _ ∙ r.sized ∙ sym (slot_length s.links me k p); unsettled = bind_unsettled s.cells s.links me k y (place p.host p.cell) p held r.unsettled; covers = subst (AllByRecursion (Covers (slot_bound s.links me k p))) (sym f) (tt, covers_more s.links (slot_bound s.links me k p) (λ i z. inl (LiveKeys (slot_bound s.links me k p).modules s.links.modules (slot_keys s.links me k p) i z)) (slot_stays s.links me k p r.whole lives unbound_yet) s.core.frames r.covers); alone = subst Alone (sym f) (never, r.alone) }
    where
      me : ℕ
      me = s.core.here.host

      lives : Live s.links.modules p.host
      lives = let t = resolve_first.live s.links s.core.here.host y p h in is_live s.links.modules p.host t.0 t.1

      held : part_at helds s.cells s.core.here.host k ≡ Some (link y None)
      held = held_part s s.core.here.host k (link y None) e

      unbound_yet : (x : Module) → slice_get s.links.modules s.core.here.host ≡ Some x → slice_get x.bound k ≡ Some None
      unbound_yet x n = sym (ap (λ o. on_some o (λ x. slice_get x.bound k)) n) ∙ r.unsettled s.core.here.host k y held

begins_sane : (ls : List Library) (m : Room) (ins : List ℕ) (s : State) → begins ls m ins ≡ Some s → Sane s
begins_sane [] m ins s e = absurd (none-some _ e)
begins_sane (l ∷ ls) m ins s e = let b = begins_inv l ls m ins s e in subst Sane (sym b.4) (record { whole = keeps_whole.by_load (l ∷ ls) m l.name true (blank ins).links b.1 (keeps_whole.at_first 1) b.3; sized = load_sized (l ∷ ls) m l.name true (blank ins).links b.1 [] b.3 refl; unsettled = load_unsettled (l ∷ ls) m l.name true (blank ins).links b.1 [] b.3 refl (λ i c y q. absurd (none-some _ q)); covers = (tt, tt); alone = (never, tt) })

pub runs_whole : RunsWhole
runs_whole ls m ins s n e = (after_by ls m (λ a b. Sane a → Sane b) (λ a r. r) (λ a b c p q r. q (p r)) (λ a x d r. change_sane ls m a r x d) s 0 n (omega arith) (begins_sane ls m ins s e)).whole
