-- Cells and words that are written; no two live cells share an address.
use Rattle.std.proofs.lemmas.List.{length-set}
use Rattle.std.proofs.lemmas.Option.{slice_get_within, same_Some}
use Rattle.std.specs.Prelude.{None, Option, Some, cond, slice_get, slice_set}
use Rattle.std.proofs.Common.{◌≡◌, ℕ, ◌+◌, ◌%◌, ◌<◌, eqb, List, length, sym, refl, ap, ◌∙◌, subst, subst₂, ⊎_elim, arith}
use Rattle.std.proofs.lemmas.Bool.{ne_eqb, cases_eq}
use Rattle.base.specs.Choices.{opt}
use Rattle.base.proofs.Choices.{opt_some}
use Rattle.base.proofs.Lists.{slice_get-set_same, slice_get-set_other}
use Rattle.library.specs.Library.{Symbol, Sto, Call, slot, Library}
use Rattle.library.specs.Fine.{Fine}
use Rattle.links.specs.Links.{place_at, Module, Links, Room}
use Rattle.links.specs.Scope.{live_at}
use Rattle.links.proofs.Keys.{live_inv}
use Rattle.meaning.specs.State.{Next, goes, wrong, Value, num, place, Held, val, link, label, code, State}
use Rattle.meaning.specs.State as state
use Rattle.meaning.specs.Values as values
use Rattle.meaning.specs.Steps as steps
use Rattle.processor.specs.Cpu.{Processor, Did, did}
use Rattle.processor.specs.declared.Event.TheVariants as events
use Rattle.processor.specs.Cpu
use Rattle.image.specs.Encode.{fields}
use Rattle.simulation.proofs.Plain.{on_reg_any, Good, held_inv, next_at, own_there, calls_good}
use Rattle.simulation.specs.Layout.{Layout, base_of, size_of, addr, Fits}
use Rattle.simulation.specs.Relation.{Holds, Kept, Mem, Rel}

module _ (ls : List Library) (k : Layout) (ks : Links) (css : List (List Held)) (ws : List ℕ) (mem : Mem ls k ks css ws) where
  -- no two cells share an address
  pub no_two : (i j a b : ℕ) (x y : Module) → live_at ks.modules i ≡ Some x → live_at ks.modules a ≡ Some y → j < size_of k i → b < size_of k a → (a ≡ i → ⊥) → base_of k a + b ≡ base_of k i + j → ⊥
  no_two i j a b x y ei ea hj hb d e = ⊎_elim (λ l. omega arith) (λ l. omega arith) (mem.ground.apart.apart a i y x ea ei d)

  pub there : (i : ℕ) (x : Module) → live_at ks.modules i ≡ Some x → i < length k.bases
  there i x e = omega (arith, slice_get_within ks.modules i x (live_inv ks.modules i x e).0, mem.ground.count)

  -- a cell written, and its word
  pub mem_put : (i j w : ℕ) (x : Module) (hs : List Held) (old h : Held) → live_at ks.modules i ≡ Some x → slice_get css i ≡ Some hs → slice_get hs j ≡ Some old → Holds ls k (size_of k i) j h w → ((y : Symbol) (o : Option Value) → h ≡ link y o → slice_get x.lib.cells j ≡ Some (slot y)) → Mem ls k ks (steps.put_cell css i j h) (slice_set ws (base_of k i + j) w)
  mem_put i j w x hs old h ei es ej hw sl = rw (opt_some (slice_get css i) css (λ hs. slice_set css i (slice_set hs j h)) hs es) (record {
    ground = rw (length-set ws (base_of k i + j) w) mem.ground;
    held = length-set css i (slice_set hs j h) ∙ mem.held;
    numbered = mem.numbered;
    cells = λ a z gs e q. ⊎_elim (λ p. here a z gs p e q) (λ p. other a z gs p e q) (cases_eq a i);
  })
    where
      kx : Kept ls k ws i x hs
      kx = mem.cells i x hs ei es

      hj : j < size_of k i
      hj = omega (arith, slice_get_within hs j old ej, kx.sized)

      hw' : (base_of k i + j) < length ws
      hw' = omega (arith, hj, mem.ground.placed.last i (there i x ei))

      cell_here : (b : ℕ) (g : Held) → slice_get (slice_set hs j h) b ≡ Some g → (u : ℕ) × (slice_get (slice_set ws (base_of k i + j) w) (base_of k i + b) ≡ Some u) × Holds ls k (size_of k i) b g u
      cell_here b g e = ⊎_elim same_cell other_cell (cases_eq b j)
        where
          same_cell : b ≡ j → (u : ℕ) × (slice_get (slice_set ws (base_of k i + j) w) (base_of k i + b) ≡ Some u) × Holds ls k (size_of k i) b g u
          same_cell q = let p : slice_get (slice_set hs j h) j ≡ Some h = slice_get-set_same hs j h (slice_get_within hs j old ej) in let r : h ≡ g = cc in rw q (w, slice_get-set_same ws (base_of k i + j) w hw', rw r at hw)

          other_cell : (b ≡ j → ⊥) → (u : ℕ) × (slice_get (slice_set ws (base_of k i + j) w) (base_of k i + b) ≡ Some u) × Holds ls k (size_of k i) b g u
          other_cell q = let t = kx.cell b g (sym (slice_get-set_other hs j b h q) ∙ e) in (t.0, slice_get-set_other ws (base_of k i + j) (base_of k i + b) w (λ r. q (omega arith)) ∙ t.1, t.2)

      slot_here : (b : ℕ) (y : Symbol) (o : Option Value) → slice_get (slice_set hs j h) b ≡ Some (link y o) → slice_get x.lib.cells b ≡ Some (slot y)
      slot_here b y o e = ⊎_elim (λ q. ap (slice_get x.lib.cells) q ∙ sl y o (same_Some _ _ (sym (slice_get-set_same hs j h (slice_get_within hs j old ej)) ∙ ap (slice_get (slice_set hs j h)) (sym q) ∙ e))) (λ q. kx.slots b y o (sym (slice_get-set_other hs j b h q) ∙ e)) (cases_eq b j)

      here : (a : ℕ) (z : Module) (gs : List Held) → a ≡ i → live_at ks.modules a ≡ Some z → slice_get (slice_set css i (slice_set hs j h)) a ≡ Some gs → Kept ls k (slice_set ws (base_of k i + j) w) a z gs
      here a z gs p e q = subst₂ (λ b g. Kept ls k (slice_set ws (base_of k i + j) w) b z g) (sym p) hg (subst (λ y. Kept ls k (slice_set ws (base_of k i + j) w) i y (slice_set hs j h)) xz (record {
        sized = length-set hs j h ∙ kx.sized;
        slots = slot_here;
        cell = cell_here;
      }))
        where
          xz : x ≡ z
          xz = same_Some _ _ (sym ei ∙ ap (live_at ks.modules) (sym p) ∙ e)

          hg : slice_set hs j h ≡ gs
          hg = same_Some _ _ (sym (slice_get-set_same css i (slice_set hs j h) (slice_get_within css i hs es)) ∙ ap (slice_get (slice_set css i (slice_set hs j h))) (sym p) ∙ q)

      other : (a : ℕ) (z : Module) (gs : List Held) → (a ≡ i → ⊥) → live_at ks.modules a ≡ Some z → slice_get (slice_set css i (slice_set hs j h)) a ≡ Some gs → Kept ls k (slice_set ws (base_of k i + j) w) a z gs
      other a z gs p e q = let kz = mem.cells a z gs e (sym (slice_get-set_other css i a (slice_set hs j h) p) ∙ q) in record {
        sized = kz.sized;
        slots = kz.slots;
        cell = λ b g eb. let t = kz.cell b g eb in (t.0, slice_get-set_other ws (base_of k i + j) (base_of k a + b) w (no_two i j a b x z ei e hj (omega (arith, slice_get_within gs b g eb, kz.sized)) p) ∙ t.1, t.2);
      }

module _ (ls : List Library) (k : Layout) (s : State) (c : Processor) (rel : Rel ls k s c) where
  -- the word that a cell has
  pub has_word : (i j : ℕ) (h : Held) → state.held_at s i j ≡ Some h → (w : ℕ) × (slice_get c.words (base_of k i + j) ≡ Some w) × Holds ls k (size_of k i) j h w
  has_word i j h e = let x = held_inv s i j h e in (rel.mem.cells i x.0 x.1 x.2 x.3).cell j h x.4

  module _ (m : Room) (low : s.core.here.cell < size_of k s.core.here.host) where
    -- a store: it has no meaning, or a cell of a live module that holds a value gets one, and the word at its address that value's
    pub sto_cases : (P : Next → Did → Type 0) → ((d : Did) → P (wrong s) d) → ((i j : ℕ) (v old : Value) (x : Module) (hs : List Held) → Fits k v → live_at s.links.modules i ≡ Some x → slice_get s.cells i ≡ Some hs → slice_get hs j ≡ Some (val old) → P (goes (values.next (state.with_links s s.links (steps.put_cell s.cells i j (val v))))) (Cpu.stores c (base_of k i + j) (addr k v))) → (a n r : ℕ) → Fine (Sto a n r) → P (steps.does ls m s (Sto a n r)) (Cpu.does c (fields (Sto a n r) s.core.here.cell))
    sto_cases P fell wrote a n r h = on_reg_any ls k s c rel P a _ _ (fell _) (elim [ num l ↦ λ f. on_reg_any ls k s c rel P r _ _ (fell _) (λ v fv. fell _) | place i l ↦ λ f. on_reg_any ls k s c rel P r _ _ (fell _) (λ v fv. go i l f v fv (state.held_at s i (l + n)) refl) ])
      where
        go : (i l : ℕ) → Fits k (place i l) → (v : Value) → Fits k v → (o : Option Held) → state.held_at s i (l + n) ≡ o → P (opt (steps.write_at s (place i l) n v) (wrong s) (λ t. goes (values.next t))) (Cpu.word c ((base_of k i + l + n) % Cpu.all) (λ o. Cpu.stores c ((base_of k i + l + n) % Cpu.all) (addr k v)))
        go i l f v fv None e = rw e (fell _)
        go i l f v fv (Some (val old)) e = let x = held_inv s i (l + n) (val old) e in let p : (base_of k i + l + n) % Cpu.all ≡ base_of k i + (l + n) = omega (arith, rel.mem.ground.placed.last i f.0, rel.mem.ground.placed.few, f.1, h.1) in let t = has_word i (l + n) (val old) e in rw (e, p, t.1) (wrote i (l + n) v old x.0 x.1 fv x.2 x.3 x.4)
        go i l f v fv (Some (link y o)) e = rw e (fell _)
        go i l f v fv (Some (label x)) e = rw e (fell _)
        go i l f v fv (Some (code o)) e = rw e (fell _)

    pub sto_good : (a n r : ℕ) → Fine (Sto a n r) → Good ls k s c.outs (steps.does ls m s (Sto a n r)) (Cpu.does c (fields (Sto a n r) s.core.here.cell))
    sto_good = sto_cases (Good ls k s c.outs) (λ d. sym rel.outs) (λ i j v old x hs fv ei es ej. (
      refl,
      record {
        mem = mem_put ls k s.links s.cells c.words rel.mem i j (addr k v) x hs (val old) (val v) ei es ej (refl, fv) (λ y o e. let z : ◌≡◌ {A = ℕ} 0 1 = cc in absurd (omega arith));
        regs = rel.regs;
        here = next_at ls k s c rel low;
        backs = rel.backs;
        pushed = rel.pushed;
        ins = rel.ins;
        outs = rel.outs;
      },
      refl,
      refl,
    ))

    pub call_good : (j : ℕ) (y : Symbol) (v : Value) → j < size_of k s.core.here.host → steps.own s j ≡ Some (link y (Some v)) → Good ls k s c.outs (steps.does ls m s (Call j)) (Cpu.does c (fields (Call j) s.core.here.cell))
    call_good j y v h e = let t = has_word s.core.here.host j (link y (Some v)) e in rw (e, own_there ls k s c rel m low j h, t.1) (go v t.0 t.2.0 t.2.1)
      where
        go : (v : Value) (w : ℕ) → w ≡ addr k v → Fits k v → Good ls k s c.outs (steps.calls_place s v) (cond (eqb w 0) (Cpu.did c (events.Bind (base_of k s.core.here.host + j))) (Cpu.calls c w))
        go (num n) w q f = (sym rel.outs)
        go (place i l) w q f = rw (ne_eqb w 0 (λ z. omega (arith, rel.mem.ground.placed.first i f.0))) (calls_good ls k s c rel m low (place_at i l) w (record { is = q; fit = f }))
