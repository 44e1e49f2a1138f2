-- Instructions that the processor does by itself.
use Rattle.std.proofs.ByRecursion.{All-set}
use Rattle.std.proofs.lemmas.List.{map-set}
use Rattle.std.proofs.lemmas.Option.{slice_get-map}
use Rattle.std.specs.List.{AllByRecursion}
use Rattle.std.specs.Option.{option_map}
use Rattle.std.specs.Prelude.{None, Option, Some, cond, slice_get, slice_set}
use Rattle.std.proofs.Common.{◌≡◌, ℕ, suc, ◌+◌, ◌%◌, ◌<◌, Bool, true, false, eqb, List, [], ◌∷◌, ◌++◌, map, length, drop, sym, refl, ap, ◌∙◌, subst, subst₂, arith}
use Rattle.std.proofs.lemmas.Bool.{ne_eqb}
use Rattle.base.specs.Choices.{opt}
use Rattle.base.proofs.Choices.{on_some_inv}
use Rattle.base.proofs.Lists.{all_slice_get}
use Rattle.library.specs.Library.{Set, Get, Own, Move, Jump, If0, Callr, Ret, Push, Pop, Out, In, Library}
use Rattle.library.specs.Fine.{Fine}
use Rattle.links.specs.Links.{Place, place_at, Module, Room}
use Rattle.links.specs.Scope.{live_at}
use Rattle.meaning.specs.State.{Next, goes, ended, lost, wrong, Value, num, place, Held, val, link, label, code, Frame, back, State}
use Rattle.meaning.specs.State as state
use Rattle.meaning.specs.Calls as calls
use Rattle.meaning.specs.Values as values
use Rattle.meaning.specs.Steps as steps
use Rattle.processor.specs.Cpu.{Processor, Did, did}
use Rattle.processor.specs.declared.Event.TheVariants.{Continue}
use Rattle.processor.specs.declared.Event.TheVariants as events
use Rattle.processor.specs.Cpu
use Rattle.image.specs.Encode.{fields, apart}
use Rattle.image.proofs.Decode.{apart_there}
use Rattle.simulation.specs.Rows.{pendings}
use Rattle.simulation.specs.Layout.{Layout, base_of, size_of, Placed, addr, addr_back, Fits, FitsFrame}
use Rattle.simulation.specs.Relation.{Values, At, Rel}

-- what a step from z makes of the meaning and of the processor, where the processor makes it alone, or it has no meaning; os: what was shown before it
abbrev pub Good : List Library → Layout → State → List ℕ → Next → Did → Type 0
Good ls k z os (goes t) d = (d.event ≡ Continue) × Rel ls k t d.cpu × (t.links ≡ z.links) × (pendings k t.core.frames ≡ pendings k z.core.frames)
Good ls k z os (ended n t) d = ⊥
Good ls k z os (lost t) d = ⊥
Good ls k z os (wrong t) d = t.outs ≡ os

-- a value's address is a word
addr_small : (k : Layout) (t : ℕ) (v : Value) → Placed k t → Fits k v → addr k v < Cpu.all
addr_small k t (num n) l f = f
addr_small k t (place i j) l f = omega (arith, l.last i f.0, l.few)

addr_word : (k : Layout) (t : ℕ) (v : Value) → Placed k t → Fits k v → addr k v % Cpu.all ≡ addr k v
addr_word k t v l f = omega (arith, addr_small k t v l f)

-- a value that is put among others
pub values_put : (k : Layout) (vs : List Value) (ns : List ℕ) (r : ℕ) (v : Value) → Values k vs ns → Fits k v → Values k (slice_set vs r v) (slice_set ns r (addr k v))
values_put k vs ns r v x f = record { are = rw (x.are, map-set) refl; fit = All-set (Fits k) vs r v f x.fit }

-- a cell that holds something, taken apart
pub held_inv : (s : State) (i j : ℕ) (h : Held) → state.held_at s i j ≡ Some h → (x : Module) × (hs : List Held) × (live_at s.links.modules i ≡ Some x) × (slice_get s.cells i ≡ Some hs) × (slice_get hs j ≡ Some h)
held_inv s i j h e = let p = on_some_inv (live_at s.links.modules i) _ h e in let q = on_some_inv (slice_get s.cells i) _ h p.2 in (p.0, q.0, p.1, q.1, q.2)

module _ (ls : List Library) (k : Layout) (s : State) (c : Processor) (rel : Rel ls k s c) where
  -- on to the next cell
  pub next_at : s.core.here.cell < size_of k s.core.here.host → At k (place_at s.core.here.host (suc s.core.here.cell)) (suc c.pc)
  next_at h = record {
    is = omega (arith, rel.here.is);
    fit = (rel.here.fit.0, omega (arith, rel.mem.ground.placed.last s.core.here.host rel.here.fit.0, rel.mem.ground.placed.few));
  }

  -- a register that is set
  pub sets_good : (r w : ℕ) (v : Value) → s.core.here.cell < size_of k s.core.here.host → Fits k v → w % Cpu.all ≡ addr k v → Good ls k s c.outs (values.sets s r v) (Cpu.sets c r w)
  sets_good r w v hc f e = (
    refl,
    record {
      mem = rel.mem;
      regs = rw e (values_put k s.core.regs c.regs r v rel.regs f);
      here = next_at hc;
      backs = rel.backs;
      pushed = rel.pushed;
      ins = rel.ins;
      outs = rel.outs;
    },
    refl,
    refl,
  )

  -- what a register holds, as a word
  pub reg_is : (a : ℕ) → slice_get c.regs a ≡ option_map (addr k) (slice_get s.core.regs a)
  reg_is a = ap (λ rs. slice_get rs a) rel.regs.are ∙ slice_get-map (addr k) s.core.regs a

  -- a register that is read
  pub on_reg_any : (P : Next → Did → Type 0) (a : ℕ) (f : Value → Next) (g : ℕ → Did) → P (wrong s) (Cpu.did c events.Stuck) → ((v : Value) → Fits k v → P (f v) (g (addr k v))) → P (values.on_val s (values.reg s a) f) (Cpu.reg c a g)
  on_reg_any P a f g fell h = rw (reg_is a) (go (slice_get s.core.regs a) refl)
    where
      go : (o : Option Value) → slice_get s.core.regs a ≡ o → P (values.on_val s o f) (opt (option_map (addr k) o) (Cpu.did c events.Stuck) g)
      go None e = fell
      go (Some v) e = h v (all_slice_get (Fits k) s.core.regs a v rel.regs.fit e)

  pub on_reg : (a : ℕ) (f : Value → Next) (g : ℕ → Did) → ((v : Value) → Fits k v → Good ls k s c.outs (f v) (g (addr k v))) → Good ls k s c.outs (values.on_val s (values.reg s a) f) (Cpu.reg c a g)
  on_reg a f g h = on_reg_any (Good ls k s c.outs) a f g (sym rel.outs) h

  on_number : (a : ℕ) (f : ℕ → Next) (g : ℕ → Did) → ((n : ℕ) → n < Cpu.all → Good ls k s c.outs (f n) (g n)) → Good ls k s c.outs (values.on_num s (values.reg s a) f) (Cpu.reg c a g)
  on_number a f g h = rw (reg_is a) (go (slice_get s.core.regs a) refl)
    where
      go : (o : Option Value) → slice_get s.core.regs a ≡ o → Good ls k s c.outs (values.on_num s o f) (opt (option_map (addr k) o) (Cpu.did c events.Stuck) g)
      go None e = (sym rel.outs)
      go (Some (num n)) e = h n (all_slice_get (Fits k) s.core.regs a (num n) rel.regs.fit e)
      go (Some (place i j)) e = (sym rel.outs)

  module _ (m : Room) (low : s.core.here.cell < size_of k s.core.here.host) where
    pub set_good : (r n : ℕ) → Fine (Set r n) → Good ls k s c.outs (steps.does ls m s (Set r n)) (Cpu.does c (fields (Set r n) s.core.here.cell))
    set_good r n h = sets_good r n (num n) low (omega arith) (omega arith)

    pub move_good : (r a : ℕ) → Fine (Move r a) → Good ls k s c.outs (steps.does ls m s (Move r a)) (Cpu.does c (fields (Move r a) s.core.here.cell))
    move_good r a h = on_reg a (values.sets s r) (Cpu.sets c r) (λ v f. sets_good r (addr k v) v low f (addr_word k (length c.words) v rel.mem.ground.placed f))

    pub push_good : (r : ℕ) → Fine (Push r) → Good ls k s c.outs (steps.does ls m s (Push r)) (Cpu.does c (fields (Push r) s.core.here.cell))
    push_good r h = on_reg r _ _ (λ v f. (
      refl,
      record {
        mem = rel.mem;
        regs = rel.regs;
        here = next_at low;
        backs = rel.backs;
        pushed = record { are = ap (λ xs. addr k v ∷ xs) rel.pushed.are; fit = (f, rel.pushed.fit) };
        ins = rel.ins;
        outs = rel.outs;
      },
      refl,
      refl,
    ))

    pub out_good : (r : ℕ) → Fine (Out r) → Good ls k s c.outs (steps.does ls m s (Out r)) (Cpu.does c (fields (Out r) s.core.here.cell))
    out_good r h = on_number r _ _ (λ n f. (
      refl,
      record {
        mem = rel.mem;
        regs = rel.regs;
        here = next_at low;
        backs = rel.backs;
        pushed = rel.pushed;
        ins = rel.ins;
        outs = ap (λ o. o ++ (n ∷ [])) rel.outs;
      },
      refl,
      refl,
    ))

    pub pop_good : (r : ℕ) → Fine (Pop r) → Good ls k s c.outs (steps.does ls m s (Pop r)) (Cpu.does c (fields (Pop r) s.core.here.cell))
    pop_good r h = subst (λ xs. Good ls k s c.outs (steps.pops s r s.core.pushed) (Cpu.pops c r xs)) (sym rel.pushed.are) (go s.core.pushed rel.pushed.fit)
      where
        go : (vs : List Value) → AllByRecursion (Fits k) vs → Good ls k s c.outs (steps.pops s r vs) (Cpu.pops c r (map (addr k) vs))
        go [] f = (sym rel.outs)
        go (v ∷ vs) f = (
          refl,
          record {
            mem = rel.mem;
            regs = rw (addr_word k (length c.words) v rel.mem.ground.placed f.0) (values_put k s.core.regs c.regs r v rel.regs f.0);
            here = next_at low;
            backs = rel.backs;
            pushed = record { are = refl; fit = f.1 };
            ins = rel.ins;
            outs = rel.outs;
          },
          refl,
          refl,
        )

    pub in_good : (r : ℕ) → Fine (In r) → Good ls k s c.outs (steps.does ls m s (In r)) (Cpu.does c (fields (In r) s.core.here.cell))
    in_good r h = (
      refl,
      record {
        mem = rel.mem;
        regs = rw (ap (λ is. Cpu.first_in is % Cpu.all) rel.ins) (rw (first_word s.ins) (values_put k s.core.regs c.regs r (num (steps.first_in s.ins)) rel.regs (first_small s.ins)));
        here = next_at low;
        backs = rel.backs;
        pushed = rel.pushed;
        ins = ap (λ is. drop 1 is) rel.ins;
        outs = ap (λ o. o ++ (Cpu.all ∷ [])) rel.outs;
      },
      refl,
      refl,
    )
      where
        first_small : (is : List ℕ) → steps.first_in is < Cpu.all
        first_small [] = omega arith
        first_small (n ∷ is) = omega arith

        first_word : (is : List ℕ) → Cpu.first_in is % Cpu.all ≡ steps.first_in is
        first_word [] = refl
        first_word (n ∷ is) = omega arith

    pub own_there : (j : ℕ) → j < size_of k s.core.here.host → Cpu.there c (apart j s.core.here.cell) ≡ base_of k s.core.here.host + j
    own_there j h = let l = rel.mem.ground.placed.last s.core.here.host rel.here.fit.0 in rw rel.here.is (apart_there (base_of k s.core.here.host) j s.core.here.cell (omega (arith, rel.mem.ground.placed.few)) (omega (arith, rel.mem.ground.placed.few)))

    own_at : (j : ℕ) → j < size_of k s.core.here.host → At k (place_at s.core.here.host j) (Cpu.there c (apart j s.core.here.cell))
    own_at j h = record { is = own_there j h; fit = (rel.here.fit.0, omega (arith, rel.mem.ground.placed.last s.core.here.host rel.here.fit.0, rel.mem.ground.placed.few)) }

    at_good : (p : Place) (a : ℕ) → At k p a → Good ls k s c.outs (goes (calls.at_pc s p)) (Cpu.goes c a)
    at_good p a h = (refl, record { mem = rel.mem; regs = rel.regs; here = h; backs = rel.backs; pushed = rel.pushed; ins = rel.ins; outs = rel.outs }, refl, refl)

    pub jump_good : (j : ℕ) → j < size_of k s.core.here.host → Good ls k s c.outs (steps.does ls m s (Jump j)) (Cpu.does c (fields (Jump j) s.core.here.cell))
    jump_good j h = at_good _ _ (own_at j h)

    pub own_good : (r j : ℕ) → j < size_of k s.core.here.host → Good ls k s c.outs (steps.does ls m s (Own r j)) (Cpu.does c (fields (Own r j) s.core.here.cell))
    own_good r j h = sets_good r _ (place s.core.here.host j) low (own_at j h).fit (rw (own_there j h) (addr_word k (length c.words) (place s.core.here.host j) rel.mem.ground.placed (own_at j h).fit))

    pub if0_good : (r j : ℕ) → j < size_of k s.core.here.host → Good ls k s c.outs (steps.does ls m s (If0 r j)) (Cpu.does c (fields (If0 r j) s.core.here.cell))
    if0_good r j h = on_reg r _ _ (elim [ num n ↦ λ f. num_go n (eqb n 0) | place i l ↦ λ f. rw (ne_eqb (base_of k i + l) 0 (λ e. omega (arith, rel.mem.ground.placed.first i f.0))) (at_good _ _ (next_at low)) ])
      where
        num_go : (n : ℕ) (b : Bool) → Good ls k s c.outs (cond b (steps.to_cell s j) (goes (values.next s))) (Cpu.goes c (cond b (Cpu.there c (apart j s.core.here.cell)) (suc c.pc)))
        num_go n true = at_good _ _ (own_at j h)
        num_go n false = at_good _ _ (next_at low)

    -- a place that is called
    pub calls_good : (p : Place) (a : ℕ) → At k p a → Good ls k s c.outs (steps.pushes s p) (Cpu.calls c a)
    calls_good p a h = (
      refl,
      record {
        mem = rel.mem;
        regs = rel.regs;
        here = h;
        backs = record { rest = rel.backs.rest; are = λ i. (next_at low).is i ∷ rel.backs.are i; fit = ((next_at low).fit, rel.backs.fit) };
        pushed = rel.pushed;
        ins = rel.ins;
        outs = rel.outs;
      },
      refl,
      refl,
    )

    pub callr_good : (r : ℕ) → Fine (Callr r) → Good ls k s c.outs (steps.does ls m s (Callr r)) (Cpu.does c (fields (Callr r) s.core.here.cell))
    callr_good r h = on_reg r _ _ (elim [ num n ↦ λ f. (sym rel.outs) | place i l ↦ λ f. calls_good (place_at i l) _ (record { is = refl; fit = f }) ])

    pub ret_good : (p : Place) (fs : List Frame) → s.core.frames ≡ back p ∷ fs → Good ls k s c.outs (steps.does ls m s Ret) (Cpu.does c (fields Ret s.core.here.cell))
    ret_good p fs e = subst₂ (λ f b. Good ls k s c.outs (calls.returns s f) (Cpu.returns c b)) (sym e) (sym (rel.backs.are ∙ ap (λ f. map (addr_back k) f ++ rel.backs.rest) e)) (
      refl,
      record {
        mem = rel.mem;
        regs = rel.regs;
        here = record { is = refl; fit = ff.0 };
        backs = record { rest = rel.backs.rest; are = refl; fit = ff.1 };
        pushed = rel.pushed;
        ins = rel.ins;
        outs = rel.outs;
      },
      refl,
      sym (ap (pendings k) e),
    )
      where
        ff : AllByRecursion (FitsFrame k) (back p ∷ fs)
        ff = rw e at rel.backs.fit

    -- a cell that is read
    pub get_good : (r a n : ℕ) → Fine (Get r a n) → Good ls k s c.outs (steps.does ls m s (Get r a n)) (Cpu.does c (fields (Get r a n) s.core.here.cell))
    get_good r a n h = on_reg a _ _ (elim [ num l ↦ λ f. (sym rel.outs) | place i l ↦ λ f. go i l f (state.held_at s i (l + n)) refl ])
      where
        found : (i l w : ℕ) (v : Value) → Fits k (place i l) → slice_get c.words (base_of k i + (l + n)) ≡ Some w → w ≡ addr k v → Fits k v → Good ls k s c.outs (values.sets s r v) (Cpu.word c ((base_of k i + l + n) % Cpu.all) (Cpu.sets c r))
        found i l w v f e q fv = let p : (base_of k i + l + n) % Cpu.all ≡ base_of k i + (l + n) = omega (arith, rel.mem.ground.placed.last i f.0, rel.mem.ground.placed.few, h.2) in rw (p, e) (sets_good r w v low fv (rw q (addr_word k (length c.words) v rel.mem.ground.placed fv)))

        go : (i l : ℕ) → Fits k (place i l) → (o : Option Held) → state.held_at s i (l + n) ≡ o → Good ls k s c.outs (values.on_val s (steps.value_at s (place i l) n) (values.sets s r)) (Cpu.word c ((base_of k i + l + n) % Cpu.all) (Cpu.sets c r))
        go i l f None e = rw e (sym rel.outs)
        go i l f (Some (val v)) e = let x = held_inv s i (l + n) (val v) e in let y = (rel.mem.cells i x.0 x.1 x.2 x.3).cell (l + n) (val v) x.4 in rw e (found i l y.0 v f y.1 y.2.0 y.2.1)
        go i l f (Some (link y o)) e = rw e (sym rel.outs)
        go i l f (Some (label x)) e = rw e (sym rel.outs)
        go i l f (Some (code o)) e = rw e (sym rel.outs)
