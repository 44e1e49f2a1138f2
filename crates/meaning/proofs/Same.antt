-- Where room is never short, a program shows the same.
use Rattle.std.specs.List.{list_all}
use Rattle.std.specs.Prelude.{None, Option, Some, cond, is_some, slice_get, slice_set}
use Rattle.std.proofs.Common.{◌≡◌, ℕ, zero, suc, ◌+◌, ◌*◌, ◌≤◌, Bool, true, false, not, ◌&&◌, ◌||◌, eqb, List, [], ◌∷◌, ◌++◌, map, length, sym, refl, ap, ◌∙◌, subst₂, ⊎_elim, arith}
use Rattle.base.specs.Choices.{opt, on_some, guard}
use Rattle.base.specs.Names.{Name}
use Rattle.library.specs.Library.{Instruction, Open, Cell, number, ref, at, slot, named, instruction, Library, find_library}
use Rattle.links.specs.Links.{place_at, Module, Links, Room}
use Rattle.links.specs.Closure.{closure, init_order}
use Rattle.links.specs.Scope.{resolve}
use Rattle.links.specs.Load.{Brought, joined, added, fits, find_loaded, bring_one, bring_all, ref_met, refs_met, ref_target, bound_to, bind_refs, init_ids, with_group, ordered, settle, nothing_yet, Loaded, load}
use Rattle.links.proofs.Closure.{closure_once}
use Rattle.links.proofs.Cost.{need, total, need_le}
use Rattle.links.proofs.Loading.{load_appends}
use Rattle.meaning.specs.State.{num, Held, val, link, label, code, gives, State, Next, goes, ended, lost, wrong, held_at, first_held, first_helds, new_cells, loaded}
use Rattle.meaning.specs.Calls.{returns, calls_all}
use Rattle.meaning.specs.Values.{behind, sets}
use Rattle.meaning.specs.Steps.{on_label, opens, own, does, here_code, step, then}
use Rattle.meaning.specs.Runs.{blank, begins, started, after}
use Rattle.meaning.specs.Shown.{shown, used_by, cells_of, Plenty, fate, SameShown, SameEnd}
use Rattle.meaning.proofs.Grows.{after_takes, begins_inv}
use Rattle.meaning.proofs.Retag.{used_links, with_used, retag, shown_retag, fate_retag, returns_tag, does_tag}
use Rattle.std.proofs.lemmas.Bool.{le-leb}

total_is : (m : Room) (ls : List Library) → total m ls ≡ length ls + (cells_of ls + m.gap * length ls)
total_is m [] = omega arith
total_is m (l ∷ ls) = omega (arith, total_is m ls)

-- both none, or both some, alike
abbrev Both : {A : Type 0} → (A → A → Type 0) → Option A → Option A → Type 0
Both R None None = Unit
Both R None (Some y) = ⊥
Both R (Some x) None = ⊥
Both R (Some x) (Some y) = R x y

abbrev brought_at : Brought → List ℕ → ℕ → Brought
brought_at b ss u = record { modules = b.modules; members = b.members; new = b.new; starts = ss; used = u }

abbrev BroughtLike : Brought → Brought → Type 0
BroughtLike b d = d ≡ brought_at b d.starts d.used

module _ (ls : List Library) (m k : Room) where
  abbrev OneLike : List Name → Brought → Brought → Type 0
  OneLike xs c d = BroughtLike c d × (c.used + need ls m xs ≤ m.words) × (d.used + need ls k xs ≤ k.words)

  -- with room for what is left, one more is brought in, in both or in none; and there's still room for the rest
  bring_one_like : (g : ℕ) (x : Name) (xs : List Name) (b : Brought) (ss : List ℕ) (u : ℕ) → b.used + need ls m (x ∷ xs) ≤ m.words → u + need ls k (x ∷ xs) ≤ k.words → Both (OneLike xs) (bring_one ls m g b x) (bring_one ls k g (brought_at b ss u) x)
  bring_one_like g x xs b ss u h₁ h₂ = go (find_loaded b.modules 0 x) (find_library ls x) refl
    where
      go : (j : Option ℕ) (o : Option Library) → find_library ls x ≡ o → Both (OneLike xs) (opt j (on_some o (λ l. fits m (added m g b l))) (λ j. fits m (joined b j))) (opt j (on_some o (λ l. fits k (added k g (brought_at b ss u) l))) (λ j. fits k (joined (brought_at b ss u) j)))
      go None None e = tt
      go None (Some l) e = let p₁ = rw e at h₁ in let p₂ = rw e at h₂ in rw (le-leb (b.used + (m.gap + (1 + length l.cells))) m.words (omega arith), le-leb (u + (k.gap + (1 + length l.cells))) k.words (omega arith)) (refl, omega arith, omega arith)
      go (Some j) None e = let p₁ = rw e at h₁ in let p₂ = rw e at h₂ in rw (le-leb (suc b.used) m.words (omega arith), le-leb (suc u) k.words (omega arith)) (refl, omega arith, omega arith)
      go (Some j) (Some l) e = let p₁ = rw e at h₁ in let p₂ = rw e at h₂ in rw (le-leb (suc b.used) m.words (omega arith), le-leb (suc u) k.words (omega arith)) (refl, omega arith, omega arith)

  bring_all_like : (g : ℕ) (xs : List Name) (b : Brought) (ss : List ℕ) (u : ℕ) → b.used + need ls m xs ≤ m.words → u + need ls k xs ≤ k.words → Both BroughtLike (bring_all ls m g xs b) (bring_all ls k g xs (brought_at b ss u))
  bring_all_like g [] b ss u h₁ h₂ = refl
  bring_all_like g (x ∷ xs) b ss u h₁ h₂ = go (bring_one ls m g b x) (bring_one ls k g (brought_at b ss u) x) (bring_one_like g x xs b ss u h₁ h₂) (bring_all_like g xs)
    where
      go : (o p : Option Brought) → Both (OneLike xs) o p → ((b : Brought) (ss : List ℕ) (u : ℕ) → b.used + need ls m xs ≤ m.words → u + need ls k xs ≤ k.words → Both BroughtLike (bring_all ls m g xs b) (bring_all ls k g xs (brought_at b ss u))) → Both BroughtLike (on_some o (λ c. bring_all ls m g xs c)) (on_some p (λ c. bring_all ls k g xs c))
      go None None q rec = tt
      go None (Some d) q rec = absurd q
      go (Some c) None q rec = absurd q
      go (Some c) (Some d) q rec = rw q.0 (rec c d.starts d.used q.1 q.2)

-- settling looks at no number of words
met_tag : (k : Links) (u i : ℕ) (cs : List Cell) → list_all (ref_met (used_links k u) i) cs ≡ list_all (ref_met k i) cs
met_tag k u i [] = refl
met_tag k u i (number n ∷ cs) = met_tag k u i cs
met_tag k u i (ref s n must ∷ cs) = ap (λ b. (not must || is_some (resolve k i s)) && b) (met_tag k u i cs)
met_tag k u i (at n ∷ cs) = met_tag k u i cs
met_tag k u i (slot s ∷ cs) = met_tag k u i cs
met_tag k u i (named x ∷ cs) = met_tag k u i cs
met_tag k u i (instruction o ∷ cs) = met_tag k u i cs

refs_met_tag : (k : Links) (u : ℕ) (is : List ℕ) → refs_met (used_links k u) is ≡ refs_met k is
refs_met_tag k u [] = refl
refs_met_tag k u (i ∷ is) = λ t. go (slice_get k.modules i) t && refs_met_tag k u is t
  where
    go : (o : Option Module) → opt o true (λ x. list_all (ref_met (used_links k u) i) x.lib.cells) ≡ opt o true (λ x. list_all (ref_met k i) x.lib.cells)
    go None = refl
    go (Some x) = met_tag k u i x.lib.cells

target_tag : (k : Links) (u i : ℕ) (c : Cell) → ref_target (used_links k u) i c ≡ ref_target k i c
target_tag k u i (number n) = refl
target_tag k u i (ref s n must) = refl
target_tag k u i (at n) = refl
target_tag k u i (slot s) = refl
target_tag k u i (named x) = refl
target_tag k u i (instruction o) = refl

bind_refs_tag : (k : Links) (u : ℕ) (is : List ℕ) (ms : List Module) → bind_refs (used_links k u) is ms ≡ bind_refs k is ms
bind_refs_tag k u [] ms = refl
bind_refs_tag k u (i ∷ is) ms = bind_refs_tag k u is _ ∙ ap (bind_refs k is) (go (slice_get ms i))
  where
    go : (o : Option Module) → opt o ms (λ x. slice_set ms i (bound_to (map (ref_target (used_links k u) i) x.lib.cells) x)) ≡ opt o ms (λ x. slice_set ms i (bound_to (map (ref_target k i) x.lib.cells) x))
    go None = refl
    go (Some x) = λ t. slice_set ms i (bound_to (map (λ c. target_tag k u i c t) x.lib.cells) x)

helds_tag : (k : Links) (u i : ℕ) (cs : List Cell) → first_helds (used_links k u) i cs ≡ first_helds k i cs
helds_tag k u i [] = refl
helds_tag k u i (number n ∷ cs) = ap (λ h. first_held k i (number n) ∷ h) (helds_tag k u i cs)
helds_tag k u i (ref s n must ∷ cs) = ap (λ h. first_held k i (ref s n must) ∷ h) (helds_tag k u i cs)
helds_tag k u i (at n ∷ cs) = ap (λ h. first_held k i (at n) ∷ h) (helds_tag k u i cs)
helds_tag k u i (slot s ∷ cs) = ap (λ h. first_held k i (slot s) ∷ h) (helds_tag k u i cs)
helds_tag k u i (named x ∷ cs) = ap (λ h. first_held k i (named x) ∷ h) (helds_tag k u i cs)
helds_tag k u i (instruction o ∷ cs) = ap (λ h. first_held k i (instruction o) ∷ h) (helds_tag k u i cs)

new_cells_tag : (k : Links) (u : ℕ) (is : List ℕ) → new_cells (used_links k u) is ≡ new_cells k is
new_cells_tag k u [] = refl
new_cells_tag k u (i ∷ is) = λ t. go (slice_get k.modules i) t ∷ new_cells_tag k u is t
  where
    go : (o : Option Module) → opt o [] (λ x. first_helds (used_links k u) i x.lib.cells) ≡ opt o [] (λ x. first_helds k i x.lib.cells)
    go None = refl
    go (Some x) = helds_tag k u i x.lib.cells

abbrev LoadedLike : Loaded → Loaded → Type 0
LoadedLike x y = (y.calls ≡ x.calls) × (y.links ≡ used_links x.links y.links.used) × (y.new ≡ x.new)

module _ (ls : List Library) (m k : Room) where
  load_like : (x : Name) (global : Bool) (s : Links) (u : ℕ) → s.used + total m ls ≤ m.words → u + total k ls ≤ k.words → Both LoadedLike (load ls m x global s) (load ls k x global (used_links s u))
  load_like x global s u h₁ h₂ = go (closure ls x) refl
    where
      settle_part : (b : Brought) (ss : List ℕ) (v : ℕ) → Both LoadedLike (settle ls x (with_group s b global) b) (settle ls x (used_links (with_group s b global) v) (brought_at b ss v))
      settle_part b ss v = rw (refs_met_tag (with_group s b global) v b.new) (met (refs_met (with_group s b global) b.new))
        where
          met : (c : Bool) → Both LoadedLike (guard c (Some (ordered (with_group s b global) b (init_ids b.modules b.new (init_order ls x))))) (guard c (Some (ordered (used_links (with_group s b global) v) (brought_at b ss v) (init_ids b.modules b.new (init_order ls x)))))
          met true = (refl, ap (λ ms. record { modules = ms; groups = (with_group s b global).groups; order = s.order ++ init_ids b.modules b.new (init_order ls x); used = v }) (bind_refs_tag (with_group s b global) v b.new b.modules), refl)
          met false = tt

      bring_part : (o p : Option Brought) → Both BroughtLike o p → Both LoadedLike (on_some o (λ b. settle ls x (with_group s b global) b)) (on_some p (λ b. settle ls x (with_group (used_links s u) b global) b))
      bring_part None None q = tt
      bring_part None (Some d) q = absurd q
      bring_part (Some c) None q = absurd q
      bring_part (Some c) (Some d) q = rw q (settle_part c d.starts d.used)

      go : (o : Option (List Name)) → closure ls x ≡ o → Both LoadedLike (load ls m x global s) (load ls k x global (used_links s u))
      go None e = rw e tt
      go (Some xs) e = let w = closure_once ls x xs e in rw e (bring_part (bring_all ls m (length s.groups) xs (nothing_yet s)) (bring_all ls k (length s.groups) xs (nothing_yet (used_links s u))) (bring_all_like ls m k (length s.groups) xs (nothing_yet s) [] u (omega (arith, need_le ls m xs w.0 w.1)) (omega (arith, need_le ls k xs w.0 w.1))))

  -- what was loaded, in the state
  loaded_like : (s : State) (u : ℕ) (x y : Loaded) → LoadedLike x y → loaded (with_used s u) y ≡ with_used (loaded s x) y.links.used
  loaded_like s u x y q = λ t. record { links = q.1 t; cells = s.cells ++ both t; core = s.core; ins = s.ins; outs = s.outs }
    where
      both : new_cells y.links y.new ≡ new_cells x.links x.new
      both = (λ t. new_cells (q.1 t) (q.2 t)) ∙ new_cells_tag x.links y.links.used x.new

-- the same but for what is taken
abbrev Like : Next → Next → Type 0
Like n p = (v : ℕ) × (p ≡ retag v n)

module _ (ls : List Library) (m k : Room) (s : State) (u : ℕ) (h₁ : s.links.used + total m ls ≤ m.words) (h₂ : u + total k ls ≤ k.words) where
  opens_like : (r : ℕ) (b : Bool) (x : Name) → Like (opens ls m s r b x) (opens ls k (with_used s u) r b x)
  opens_like r b x = go (load ls m x b s.links) (load ls k x b (used_links s.links u)) (load_like ls m k x b s.links u h₁ h₂)
    where
      go : (o p : Option Loaded) → Both LoadedLike o p → Like (opt o (sets s r (num 0)) (λ l. calls_all (loaded s l) l.calls (gives r (num (length s.links.groups)) (behind s.core.here)))) (opt p (sets (with_used s u) r (num 0)) (λ l. calls_all (loaded (with_used s u) l) l.calls (gives r (num (length s.links.groups)) (behind s.core.here))))
      go None None q = (u, refl)
      go None (Some y) q = absurd q
      go (Some x) None q = absurd q
      go (Some x) (Some y) q = (y.links.used, (λ t. calls_all (loaded_like ls m k s u x y q t) (q.0 t) (gives r (num (length s.links.groups)) (behind s.core.here))))

  open_like : (r j : ℕ) (b : Bool) → Like (does ls m s (Open r j b)) (does ls k (with_used s u) (Open r j b))
  open_like r j b = go (own s j)
    where
      go : (o : Option Held) → Like (on_label s o (opens ls m s r b)) (on_label (with_used s u) o (opens ls k (with_used s u) r b))
      go None = (u, refl)
      go (Some (val v)) = (u, refl)
      go (Some (link y o)) = (u, refl)
      go (Some (label x)) = opens_like r b x
      go (Some (code o)) = (u, refl)

  does_like : (o : Instruction) → Like (does ls m s o) (does ls k (with_used s u) o)
  does_like o = ⊎_elim (λ e. (u, e)) by_open (does_tag s u ls m k o)
    where
      by_open : ((r : ℕ) × (j : ℕ) × (b : Bool) × (o ≡ Open r j b)) → Like (does ls m s o) (does ls k (with_used s u) o)
      by_open q = rw q.3 (open_like q.0 q.1 q.2)

  step_like : Like (step ls m s) (step ls k (with_used s u))
  step_like = at_here (eqb s.core.here.cell 8589934592)
    where
      in_code : (o : Option Held) → Like (here_code o (does ls m s) (wrong s)) (here_code o (does ls k (with_used s u)) (wrong (with_used s u)))
      in_code None = (u, refl)
      in_code (Some (val v)) = (u, refl)
      in_code (Some (link y o)) = (u, refl)
      in_code (Some (label x)) = (u, refl)
      in_code (Some (code o)) = does_like o

      at_here : (b : Bool) → Like (cond b (returns s s.core.frames) (here_code (held_at s s.core.here.host s.core.here.cell) (does ls m s) (wrong s))) (cond b (returns (with_used s u) s.core.frames) (here_code (held_at s s.core.here.host s.core.here.cell) (does ls k (with_used s u)) (wrong (with_used s u))))
      at_here true = (u, returns_tag s u s.core.frames)
      at_here false = in_code (held_at s s.core.here.host s.core.here.cell)

module _ (ls : List Library) (m k : Room) where
  -- a step on, from what's the same but for what is taken
  then_like : (n p : Next) (v : ℕ) → p ≡ retag v n → used_by n + total m ls ≤ m.words → used_by p + total k ls ≤ k.words → (w : ℕ) × (then p (step ls k) ≡ retag w (then n (step ls m)))
  then_like (goes s) p v e h₁ h₂ = let q = step_like ls m k s v h₁ (rw e at h₂) in (q.0, rw e q.1)
  then_like (ended n s) p v e h₁ h₂ = (v, rw e)
  then_like (lost s) p v e h₁ h₂ = (v, rw e)
  then_like (wrong s) p v e h₁ h₂ = (v, rw e)

  after_like : (s t : State) (u : ℕ) → t ≡ with_used s u → (n : ℕ) → used_by (after ls m s n) + total m ls ≤ m.words → used_by (after ls k t n) + total k ls ≤ k.words → (w : ℕ) × (after ls k t n ≡ retag w (after ls m s n))
  after_like s t u e zero h₁ h₂ = (u, ap goes e)
  after_like s t u e (suc n) h₁ h₂ = let g₁ = after_takes ls m s n (suc n) (omega arith) in let g₂ = after_takes ls k t n (suc n) (omega arith) in let r₁ : used_by (after ls m s n) + total m ls ≤ m.words = omega arith in let r₂ : used_by (after ls k t n) + total k ls ≤ k.words = omega arith in let q = after_like s t u e n r₁ r₂ in then_like (after ls m s n) (after ls k t n) q.0 q.1 r₁ r₂

-- two runs of a program, in rooms that are never short, are the same but for what is taken
runs_alike : (ls : List Library) (m k : Room) (ins : List ℕ) (s t : State) (n : ℕ) → begins ls m ins ≡ Some s → begins ls k ins ≡ Some t → Plenty ls m s n → Plenty ls k t n → (w : ℕ) × (after ls k t n ≡ retag w (after ls m s n))
runs_alike [] m k ins s t n e f p q = let z : ◌≡◌ {A = ℕ} 0 1 = cc in absurd (omega arith)
runs_alike (l ∷ ls) m k ins s t n e f p q =
    let a = begins_inv l ls m ins s e in
    let b = begins_inv l ls k ins t f in
    let ga = (load_appends (l ∷ ls) m l.name true (blank ins).links a.1 a.3).taken in
    let gb = (load_appends (l ∷ ls) k l.name true (blank ins).links b.1 b.3).taken in
    let ua : s.links.used ≡ a.1.links.used = ap (λ z. z.links.used) a.4 in
    let ub : t.links.used ≡ b.1.links.used = ap (λ z. z.links.used) b.4 in
    let tm = total_is m (l ∷ ls) in
    let tk = total_is k (l ∷ ls) in
    let na = after_takes (l ∷ ls) m s 0 n (omega arith) in
    let nb = after_takes (l ∷ ls) k t 0 n (omega arith) in
    let j : Both LoadedLike (Some a.1) (Some b.1) = subst₂ (Both LoadedLike) a.3 b.3 (load_like (l ∷ ls) m k l.name true (blank ins).links 1 (omega arith) (omega arith)) in
    let c : a.0 ≡ b.0 = cc in
    let i : t ≡ with_used s b.1.links.used = b.4 ∙ (λ i. started (loaded_like (l ∷ ls) m k (blank ins) 1 a.1 b.1 j i) (j.0 i ++ (place_at 0 (sym c i) ∷ []))) ∙ ap (λ z. with_used z b.1.links.used) (sym a.4) in
    after_like (l ∷ ls) m k s t b.1.links.used i n (omega arith) (omega arith)

pub same_shown : SameShown
same_shown ls m k ins s t n e f p q = let r = runs_alike ls m k ins s t n e f p q in sym (ap shown r.1 ∙ shown_retag r.0 (after ls m s n))

pub same_end : SameEnd
same_end ls m k ins s t n e f p q = let r = runs_alike ls m k ins s t n e f p q in sym (ap fate r.1 ∙ fate_retag r.0 (after ls m s n))
