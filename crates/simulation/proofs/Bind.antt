-- A slot that is settled at the first call through it.
use Rattle.std.proofs.lemmas.Option.{slice_get_within, same_Some}
use Rattle.std.specs.Prelude.{None, Option, Some, slice_get, slice_set}
use Rattle.std.proofs.Common.{◌≡◌, ℕ, ◌+◌, ◌<◌, List, length, sym, refl, ap, ◌∙◌, subst, arith}
use Rattle.base.proofs.Choices.{opt_some}
use Rattle.base.proofs.Lists.{slice_get-set_same, slice_get-set_other}
use Rattle.library.specs.Library.{Symbol, Call, slot, Library}
use Rattle.links.specs.Links.{Place, Module, Room}
use Rattle.links.specs.Scope.{live_at, scope, resolve}
use Rattle.links.specs.Load.{bound_to}
use Rattle.links.specs.Close.{slot_bound}
use Rattle.links.proofs.Keys.{live_inv, live_from}
use Rattle.meaning.specs.State as state
use Rattle.meaning.specs.State.{Value, place, Held, link, code, State, lost}
use Rattle.meaning.specs.Steps as steps
use Rattle.processor.specs.Cpu
use Rattle.processor.specs.Cpu.{Processor, poked}
use Rattle.simulation.specs.Layout.{Layout, base_of, size_of, addr_place}
use Rattle.simulation.specs.Relation.{Rel}
use Rattle.simulation.proofs.Plain.{Good, held_inv}
use Rattle.simulation.proofs.Memory.{mem_put, call_good}
use Rattle.simulation.proofs.Under.{Under, under_put, mem_under}
use Rattle.simulation.proofs.Turn.{c_step, m_step, low}
use Rattle.simulation.proofs.Found.{found_fits}

module _ (k : Layout) (ls : List Library) (m : Room) (s : State) (c : Processor) (rel : Rel ls k s c) (j : ℕ) (y : Symbol) (p : Place) (e : state.held_at s s.core.here.host s.core.here.cell ≡ Some (code (Call j))) (q : steps.own s j ≡ Some (link y None)) (r : resolve s.links s.core.here.host y ≡ Some p) where
  abbrev i : ℕ
  i = s.core.here.host

  abbrev there : Held
  there = link y (Some (place p.host p.cell))

  x : (x : Module) × (hs : List Held) × (live_at s.links.modules i ≡ Some x) × (slice_get s.cells i ≡ Some hs) × (slice_get hs j ≡ Some (link y None))
  x = held_inv s i j (link y None) q

  -- the state with the slot settled
  abbrev s' : State
  s' = state.with_links s (slot_bound s.links i j p) (steps.put_cell s.cells i j there)

  abbrev pub c' : Processor
  c' = poked c (base_of k i + j) (addr_place k p)

  module_at : slice_get s.links.modules i ≡ Some x.0
  module_at = (live_inv s.links.modules i x.0 x.2).0

  -- the module with the slot settled
  abbrev x' : Module
  x' = bound_to (slice_set x.0.bound j (Some p)) x.0

  modules_are : s'.links.modules ≡ slice_set s.links.modules i x'
  modules_are = opt_some (slice_get s.links.modules i) s.links.modules (λ z. slice_set s.links.modules i (bound_to (slice_set z.bound j (Some p)) z)) x.0 module_at

  under : Under s.links.modules s'.links.modules
  under = subst (Under s.links.modules) (sym modules_are) (under_put s.links.modules i x.0 x' module_at refl (λ h. h))

  rel' : Rel ls k s' c'
  rel' = record {
    mem = mem_under ls k s.links (steps.put_cell s.cells i j there) c'.words s'.links.modules under (mem_put ls k s.links s.cells c.words rel.mem i j (addr_place k p) x.0 x.1 (link y None) there x.2 x.3 x.4 (refl, found_fits k s.links.modules s.links.used (length c.words) rel.mem.ground i y (scope s.links i) p r) slot_is);
    regs = rel.regs;
    here = rel.here;
    backs = rel.backs;
    pushed = rel.pushed;
    ins = rel.ins;
    outs = rel.outs;
  }
    where
      slot_is : (z : Symbol) (o : Option Value) → there ≡ link z o → slice_get x.0.lib.cells j ≡ Some (slot z)
      slot_is z o g = let w : y ≡ z = cc in rw (← w) ((rel.mem.cells i x.0 x.1 x.2 x.3).slots j y None x.4)

  held_one : (a : ℕ) (h : Held) → slice_get (slice_set x.1 j there) a ≡ Some h → state.held_at s' i a ≡ Some h
  held_one a h g = rw (live', cells') g
    where
      live' : live_at s'.links.modules i ≡ Some x'
      live' = ap (λ ms. live_at ms i) modules_are ∙ live_from (slice_set s.links.modules i x') i x' (slice_get-set_same s.links.modules i x' (slice_get_within s.links.modules i x.0 module_at)) (live_inv s.links.modules i x.0 x.2).1

      cells' : slice_get s'.cells i ≡ Some (slice_set x.1 j there)
      cells' = ap (λ cs. slice_get cs i) (opt_some (slice_get s.cells i) s.cells (λ hs. slice_set s.cells i (slice_set hs j there)) x.1 x.3) ∙ slice_get-set_same s.cells i (slice_set x.1 j there) (slice_get_within s.cells i x.1 x.3)

  still : state.held_at s' s'.core.here.host s'.core.here.cell ≡ Some (code (Call j))
  still = held_one s.core.here.cell (code (Call j)) (slice_get-set_other x.1 j s.core.here.cell there other ∙ old)
    where
      old : slice_get x.1 s.core.here.cell ≡ Some (code (Call j))
      old = let w = held_inv s i s.core.here.cell (code (Call j)) e in let z : w.1 ≡ x.1 = same_Some _ _ (sym w.3 ∙ x.3) in ap (λ hs. slice_get hs s.core.here.cell) (sym z) ∙ w.4

      other : s.core.here.cell ≡ j → ⊥
      other g = let w : Some (code (Call j)) ≡ Some (link y None) = sym old ∙ ap (slice_get x.1) g ∙ x.4 in let z : ◌≡◌ {A = ℕ} 0 1 = cc in omega arith

  settled : steps.own s' j ≡ Some there
  settled = held_one j there (slice_get-set_same x.1 j there (slice_get_within x.1 j (link y None) x.4))

  slot_in : j < size_of k i
  slot_in = omega (arith, slice_get_within x.1 j (link y None) x.4, (rel.mem.cells i x.0 x.1 x.2 x.3).sized)

  pub bind_step : steps.step ls m s ≡ steps.pushes s' p
  bind_step = m_step k ls m s c rel _ e ∙ ap (steps.calls_through s j) q ∙ opt_some _ (lost s) (steps.binds_to s j y) p r

  pub bind_good : Good ls k s' c.outs (steps.pushes s' p) (Cpu.step c')
  bind_good = let g = call_good ls k s' c' rel' m (low k ls m s' c' rel' (Call j) still) j y (place p.host p.cell) slot_in settled in rw (c_step k ls m s' c' rel' (Call j) still) (rw settled at g)
