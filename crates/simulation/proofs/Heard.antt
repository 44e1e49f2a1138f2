-- What a step of the processor tells, and what the loader may rely on then.
use Rattle.std.proofs.lemmas.List.{length-set}
use Rattle.std.proofs.lemmas.Option.{slice_get_within}
use Rattle.std.specs.List.{AllByRecursion}
use Rattle.std.specs.Option.{option_map}
use Rattle.std.specs.Prelude.{None, Option, Some, slice_get, slice_set}
use Rattle.std.proofs.Common.{◌≡◌, ℕ, suc, ◌+◌, ◌<◌, ◌≤◌, Bool, true, false, not, ◌&&◌, eqb, ◌⊎◌, List, [], ◌∷◌, ◌++◌, length, sym, refl, ap, ◌∙◌, subst, inl, inr, ⊎_elim, arith}
use Rattle.std.proofs.lemmas.Bool.{cond-true, cond-false, eq-eqb, cases_eq}
use Rattle.base.specs.Choices.{opt, guard}
use Rattle.base.specs.Names.{Name}
use Rattle.base.proofs.Choices.{opt_none, opt_some}
use Rattle.base.proofs.Lists.{all_slice_get}
use Rattle.library.specs.Library.{Symbol, Instruction, Set, Get, Sto, Own, Add, Sub, Mul, Less, Same, Move, Jump, If0, Call, Callr, Ret, Push, Pop, Out, In, Open, Find, Close, End, Library, label_at, any_version}
use Rattle.library.specs.Fine.{Fine, LibraryFine}
use Rattle.links.specs.Links.{Place, Module, Group, Links}
use Rattle.links.specs.Scope.{live_at, members_of, lookup, resolve}
use Rattle.links.specs.Load.{Loaded, load}
use Rattle.links.specs.Laws.{Loads}
use Rattle.links.specs.Close.{leaving, close_group, closed_group, fini_calls, is_open, found_in, slot_bound}
use Rattle.links.proofs.Keys.{live_inv}
use Rattle.links.proofs.Loading.{load_appends}
use Rattle.meaning.specs.State as state
use Rattle.meaning.specs.State.{Value, num, place, Held, link, label, code, gives, drops, ends, stops, Frame, back, pending, State, Next, goes, wrong, place_of}
use Rattle.meaning.specs.Calls as calls
use Rattle.meaning.specs.Values as values
use Rattle.meaning.specs.Steps as steps
use Rattle.processor.specs.Cpu
use Rattle.processor.specs.Cpu.{Processor, Did, did, asks, poked, with_reg}
use Rattle.processor.specs.declared.Event.{Event}
use Rattle.processor.specs.declared.Event.TheVariants.{Continue}
use Rattle.processor.specs.declared.Event.TheVariants as events
use Rattle.processor.specs.Laws.{Front}
use Rattle.processor.proofs.Shown.{front_self, front_trans}
use Rattle.processor.proofs.Steps.{step_shows}
use Rattle.simulation.proofs.Plain.{reg_is, values_put, held_inv, next_at}
use Rattle.simulation.specs.Layout.{Layout, base_of, size_of, addr, addr_place, Fits, FitsPlace}
use Rattle.simulation.specs.Relation.{Kept, Mem, At, Rel}
use Rattle.simulation.specs.Rows.{resume, discard, row, pendings, closing_rows}
use Rattle.simulation.specs.Says.{Fell}
use Rattle.simulation.specs.Loader.{Loader, with_links, World, at, Matches, Stands, in_code, calling, homing, fallen, Between}
use Rattle.simulation.specs.Handlers.{Binding, Opened, Opening, Finding, closes, closed, Closing, Ending, Hears, StepHeard}
use Rattle.simulation.specs.Images.{images, laid_all}
use Rattle.simulation.specs.Turns.{Asks, Turn, fell, went, asked}
use Rattle.simulation.proofs.Memory.{no_two, there}
use Rattle.simulation.proofs.Turn.{turn, low}
use Rattle.simulation.proofs.Wider.{Wider, values_wider, at_wider, backs_wider, pendings_wider}
use Rattle.simulation.proofs.Found.{place_fits, calls_fit}
use Rattle.simulation.proofs.Grown.{grown}
use Rattle.simulation.proofs.Loading.{mem_loaded, wider}
use Rattle.simulation.proofs.Bind.{bind_step, bind_good}
use Rattle.simulation.proofs.Rests.{nowhere_step, next_is, finis_fit}

pub fell_more : (f : ℕ → Next) (c : Processor) → Fell f c.outs → Fell f (Cpu.step c).cpu.outs
fell_more f c x = (x.0, x.1, x.2, front_trans x.3 (step_shows c))

fell_hears : (w : World) (l : Loader) (i : ℕ) (c : Processor) (e : Event) → Fell (at w) c.outs → Hears w l i c e
fell_hears w l i c events.Continue f = fallen f
fell_hears w l i c events.Home f = inl f
fell_hears w l i c events.Stuck f = f
fell_hears w l i c (events.Bind a) f = inl f
fell_hears w l i c (events.Open n r b) f = inl f
fell_hears w l i c (events.Find r s n) f = inl f
fell_hears w l i c (events.Close r) f = inl f
fell_hears w l i c (events.End r) f = inl f

-- what the loader keeps, from the state of the meaning
abbrev of_state : Layout → State → Loader
of_state k z = record { layout = k; links = z.links; rows = pendings k z.core.frames }

matches_is : (l : Loader) (z : State) → Matches l z → of_state l.layout z ≡ l
matches_is l z m = λ i. record { layout = l.layout; links = m.links i; rows = m.rows i }

closing_same : (k : Layout) (fs : List Frame) → steps.closing fs ≡ closing_rows (pendings k fs)
closing_same k [] = refl
closing_same k (back p ∷ fs) = closing_same k fs
closing_same k (pending ps (gives r v p) ∷ fs) = closing_same k fs
closing_same k (pending ps (drops js r p) ∷ fs) = refl
closing_same k (pending ps (ends n) ∷ fs) = closing_same k fs
closing_same k (pending ps (stops n) ∷ fs) = closing_same k fs

mem_groups : (ls : List Library) (k : Layout) (ks : Links) (css : List (List Held)) (ws : List ℕ) (gs : List Group) → length gs ≡ length ks.groups → Mem ls k ks css ws → Mem ls k (record { modules = ks.modules; groups = gs; order = ks.order; used = ks.used }) css ws
mem_groups ls k ks css ws gs e m = record { ground = m.ground; held = m.held; numbered = omega (arith, m.numbered); cells = m.cells }

closed_length : (gs : List Group) (h : ℕ) → length (opt (slice_get gs h) gs (λ g. slice_set gs h (closed_group g))) ≡ length gs
closed_length gs h = go (slice_get gs h)
  where
    go : (o : Option Group) → length (opt o gs (λ g. slice_set gs h (closed_group g))) ≡ length gs
    go None = refl
    go (Some g) = length-set gs h (closed_group g)

module _ (w : World) (k : Layout) (i n : ℕ) (z : State) (c : Processor) (fine : AllByRecursion LibraryFine w.libs) (room : w.memory.words ≡ length c.words) (made : i ≤ n + n) (e : at w n ≡ goes z) (rel : Rel w.libs k z c) where
  abbrev l : Loader
  l = of_state k z

  -- where the processor is once it has asked
  abbrev c' : Processor
  c' = (asks c Continue).cpu

  nowhere_fell : at w (suc n) ≡ wrong z → Fell (at w) c.outs
  nowhere_fell q = (suc n, z, q, subst (λ x. Front z.outs x) (sym rel.outs) (front_self z.outs))

  -- a register that must be a number
  num_or_fell : (r : ℕ) (f : ℕ → Next) → steps.step w.libs w.memory z ≡ values.on_num z (values.reg z r) f → Fell (at w) c.outs ⊎ ((v : ℕ) × (slice_get c.regs r ≡ Some v) × (v < Cpu.all) × (at w (suc n) ≡ f v))
  num_or_fell r f s = go (slice_get z.core.regs r) refl
    where
      go : (o : Option Value) → slice_get z.core.regs r ≡ o → Fell (at w) c.outs ⊎ ((v : ℕ) × (slice_get c.regs r ≡ Some v) × (v < Cpu.all) × (at w (suc n) ≡ f v))
      go None q = inl (nowhere_fell (next_is w n z e ∙ s ∙ ap (λ o. values.on_num z o f) q))
      go (Some (num v)) q = inr (v, reg_is w.libs k z c rel r ∙ ap (option_map (addr k)) q, all_slice_get (Fits k) z.core.regs r (num v) rel.regs.fit q, next_is w n z e ∙ s ∙ ap (λ o. values.on_num z o f) q)
      go (Some (place a b)) q = inl (nowhere_fell (next_is w n z e ∙ s ∙ ap (λ o. values.on_num z o f) q))

  module _ (here_in : z.core.here.cell < size_of k z.core.here.host) where
    back_at : At k (values.behind z.core.here) (suc c.pc)
    back_at = next_at w.libs k z c rel here_in

    -- the code goes on, with a value in a register
    gave : (r : ℕ) (v : Value) → Fits k v → at w (suc n) ≡ values.sets z r v → Stands w l (suc i) (with_reg c' r (addr k v))
    gave r v f q = in_code (suc n) _ (omega arith) q (record {
      links = refl;
      rows = refl;
    }) (record { mem = rel.mem; regs = values_put k z.core.regs c.regs r v rel.regs f; here = back_at; backs = rel.backs; pushed = rel.pushed; ins = rel.ins; outs = rel.outs })

    end_heard : (r : ℕ) → r < 8 → steps.step w.libs w.memory z ≡ steps.does w.libs w.memory z (End r) → Fell (at w) c.outs ⊎ Ending w l (suc i) c' r
    end_heard r hr s = ⊎_elim inl (λ x. inr (record {
      small = hr;
      v = x.0;
      value = x.1;
      ends = record {
        n = suc n;
        z = calls.ending z x.0;
        ps = fini_calls z.links z.links.order;
        f = stops x.0;
        fs = [];
        made = omega arith;
        there = x.3;
        next = nowhere_step w.libs w.memory (calls.ending z x.0) refl;
        frames = refl;
        fits = (finis_fit w.libs k z.links z.cells c.words rel.mem z.links.order, x.2);
        matches = record { links = refl; rows = refl };
        idle = record { mem = rel.mem; regs = rel.regs; backs = record { rest = c.backs; are = refl; fit = tt }; pushed = rel.pushed; ins = rel.ins; outs = rel.outs };
      };
    })) (num_or_fell r _ s)

    close_heard : (r : ℕ) → r < 8 → steps.step w.libs w.memory z ≡ steps.does w.libs w.memory z (Close r) → Fell (at w) c.outs ⊎ Closing w l (suc i) c' r
    close_heard r hr s = ⊎_elim inl (λ x. inr (record {
      small = hr;
      h = x.0;
      group = x.1;
      refused = λ t. gave r (num 0) (omega arith) (x.3 ∙ cond-false (steps.may_close z x.0) _ _ (may x.0 ∙ t));
      shut = λ t. shut x.0 (x.3 ∙ cond-true (steps.may_close z x.0) _ _ (may x.0 ∙ t));
    })) (num_or_fell r _ s)
      where
        shut_state : ℕ → State
        shut_state h = state.moved (state.with_links z (close_group z.links h) z.cells) z.core.regs calls.nowhere (pending (fini_calls (close_group z.links h) (leaving (close_group z.links h))) (drops (leaving (close_group z.links h)) r (values.behind z.core.here)) ∷ z.core.frames)

        may : (h : ℕ) → steps.may_close z h ≡ closes l h
        may h = ap (λ b. not (eqb h 0) && (is_open z.links h && not b)) (closing_same k z.core.frames)

        shut : (h : ℕ) → at w (suc n) ≡ steps.closes_it z r (close_group z.links h) → Between w (closed l r c'.pc (close_group z.links h)) (suc i) c'
        shut h q = record {
          n = suc n;
          z = shut_state h;
          ps = fini_calls (close_group z.links h) (leaving (close_group z.links h));
          f = drops (leaving (close_group z.links h)) r (values.behind z.core.here);
          fs = z.core.frames;
          made = omega arith;
          there = q;
          next = nowhere_step w.libs w.memory (shut_state h) refl;
          frames = refl;
          fits = (finis_fit w.libs k (close_group z.links h) z.cells c.words mem' (leaving (close_group z.links h)), (hr, back_at.fit));
          matches = record {
            links = refl;
            rows = λ t. row (fini_calls (close_group z.links h) (leaving (close_group z.links h))) (discard (leaving (close_group z.links h)) r (sym back_at.is t)) ∷ pendings k z.core.frames;
          };
          idle = record { mem = mem'; regs = rel.regs; backs = rel.backs; pushed = rel.pushed; ins = rel.ins; outs = rel.outs };
        }
          where
            mem' : Mem w.libs k (close_group z.links h) z.cells c.words
            mem' = mem_groups w.libs k z.links z.cells c.words _ (closed_length z.links.groups h) rel.mem

    find_heard : (r a j v : ℕ) (x : Name) → r < 8 → a < 8 → steps.own z j ≡ Some (label x) → label_at w.libs v ≡ Some x → steps.step w.libs w.memory z ≡ steps.does w.libs w.memory z (Find r a j) → Fell (at w) c.outs ⊎ Finding w l (suc i) c' r a v
    find_heard r a j v x hr ha ow lb s = ⊎_elim inl (λ t. inr (record {
      x = x;
      label = lb;
      small = hr;
      small_s = ha;
      h = t.0;
      group = t.1;
      found = gave r _ (found_fits t.0) (t.3 ∙ ap (λ o. steps.on_label z o (steps.finds z r t.0)) ow);
    })) (num_or_fell a _ s)
      where
        found_fits : (h : ℕ) → Fits k (place_of (found_in z.links h x) 0)
        found_fits h = go (is_open z.links h)
          where
            go : (b : Bool) → Fits k (place_of (guard b (lookup z.links.modules (length z.links.modules) (record { name = x; version = any_version }) (members_of z.links.groups h))) 0)
            go true = place_fits k z.links.modules z.links.used (length c.words) rel.mem.ground (length z.links.modules) 0 (record {
              name = x;
              version = any_version;
            }) (members_of z.links.groups h) (omega arith)
            go false = omega arith

    open_heard : (r j v : ℕ) (b : Bool) (x : Name) → r < 8 → steps.own z j ≡ Some (label x) → label_at w.libs v ≡ Some x → steps.step w.libs w.memory z ≡ steps.does w.libs w.memory z (Open r j b) → Opening w l (suc i) c' v r b
    open_heard r j v b x hr ow lb s = record { x = x; label = lb; small = hr; refused = λ q. gave r (num 0) (omega arith) (opens ∙ opt_none _ _ _ q); opened = opened }
      where
        opens : at w (suc n) ≡ steps.opens w.libs w.memory z r b x
        opens = next_is w n z e ∙ s ∙ ap (λ o. steps.on_label z o (steps.opens w.libs w.memory z r b)) ow

        opened : (q : Loaded) → load w.libs w.memory x b z.links ≡ Some q → Opened w l (suc i) c' q q.calls (resume r (length z.links.groups) c'.pc)
        opened q lq = (
          kq,
          refl,
          record {
            n = suc n;
            z = open_state;
            ps = q.calls;
            f = gives r (num (length z.links.groups)) (values.behind z.core.here);
            fs = z.core.frames;
            made = omega arith;
            there = opens ∙ opt_some _ _ _ q lq;
            next = nowhere_step w.libs w.memory open_state refl;
            frames = refl;
            fits = (fit_calls, (hr, small, back'.fit));
            matches = record { links = refl; rows = λ t. row q.calls (resume r (length z.links.groups) (sym back'.is t)) ∷ pendings_wider k kq wide z.core.frames rel.backs.fit t };
            idle = record {
              mem = mem';
              regs = values_wider k kq wide z.core.regs c.regs rel.regs;
              backs = backs_wider k kq wide z.core.frames c.backs rel.backs;
              pushed = values_wider k kq wide z.core.pushed c.pushed rel.pushed;
              ins = rel.ins;
              outs = rel.outs;
            };
          },
        )
          where
            lo : Loads w.libs w.memory z.links q
            lo = load_appends w.libs w.memory x b z.links q lq

            open_state : State
            open_state = state.moved (state.loaded z q) z.core.regs calls.nowhere (pending q.calls (gives r (num (length z.links.groups)) (values.behind z.core.here)) ∷ z.core.frames)

            kq : Layout
            kq = grown k q.starts lo.fresh

            wide : Wider k kq
            wide = wider w.libs fine k z.links z.cells c.words rel.mem w.memory q lo (omega arith)

            mem' : Mem w.libs kq q.links (z.cells ++ state.new_cells q.links q.new) (laid_all c.words q.starts (images w.libs kq q.links q.new))
            mem' = mem_loaded w.libs fine k z.links z.cells c.words rel.mem w.memory q lo (omega arith)

            back' : At kq (values.behind z.core.here) (suc c.pc)
            back' = at_wider k kq wide (values.behind z.core.here) (suc c.pc) back_at

            small : length z.links.groups < Cpu.all
            small = omega (arith, rel.mem.numbered, rel.mem.ground.room, rel.mem.ground.placed.few)

            fit_calls : AllByRecursion (FitsPlace kq) q.calls
            fit_calls = subst (AllByRecursion (FitsPlace kq)) (sym lo.calls.1) (calls_fit kq q.links.modules q.links.used _ mem'.ground (λ t. t.inits) (λ t f. f.inits) lo.calls.0)

  -- a slot that is called for the first time
  bind_heard : (j : ℕ) (y : Symbol) → steps.own z z.core.here.cell ≡ Some (code (Call j)) → steps.own z j ≡ Some (link y None) → steps.step w.libs w.memory z ≡ steps.does w.libs w.memory z (Call j) → Binding w l (suc i) c (base_of k z.core.here.host + j)
  bind_heard j y at_call ow s = record {
    me = me;
    x = x.0;
    j = j;
    y = y;
    live = x.2;
    at_slot = kept.slots j y None x.4;
    address = refl;
    inside = inside;
    within = omega (arith, inside, rel.mem.ground.placed.last me (there w.libs k z.links z.cells c.words rel.mem me x.0 x.2));
    sized = λ i' x' v. rel.mem.ground.sized i' x' (live_inv z.links.modules i' x' v).0;
    alone = alone;
    nowhere = λ q. (suc n, z, next_is w n z e ∙ s ∙ ap (steps.calls_through z j) ow ∙ opt_none _ _ _ q, sym rel.outs);
    settled = settled;
  }
    where
      me : ℕ
      me = z.core.here.host

      x : (x : Module) × (hs : List Held) × (live_at z.links.modules me ≡ Some x) × (slice_get z.cells me ≡ Some hs) × (slice_get hs j ≡ Some (link y None))
      x = held_inv z me j (link y None) ow

      kept : Kept w.libs k c.words me x.0 x.1
      kept = rel.mem.cells me x.0 x.1 x.2 x.3

      inside : j < size_of k me
      inside = omega (arith, slice_get_within x.1 j (link y None) x.4, kept.sized)

      alone : (i' : ℕ) (x' : Module) (j' : ℕ) → live_at z.links.modules i' ≡ Some x' → base_of k me + j ≡ base_of k i' + j' → j' < size_of k i' → (i' ≡ me) × (j' ≡ j)
      alone i' x' j' v q h = ⊎_elim (λ t. (t, omega (arith, ap (base_of k) t))) (λ t. absurd (no_two w.libs k z.links z.cells c.words rel.mem me j i' j' x.0 x' x.2 v inside h t (sym q))) (cases_eq i' me)

      settled : (p : Place) → resolve z.links me y ≡ Some p → Stands w (with_links l (slot_bound z.links me j p)) (suc i) (poked c (base_of k me + j) (addr_place k p))
      settled p q = let g = bind_good k w.libs w.memory z c rel j y p at_call ow q in calling n z _ (omega arith) e (next_is w n z e ∙ bind_step k w.libs w.memory z c rel j y p at_call ow q) (record {
        links = g.2;
        rows = g.3;
      }) g.0 g.1 rel.outs

  by_turn : Turn k w.libs w.memory z c → Hears w l (suc i) (Cpu.step c).cpu (Cpu.step c).event
  by_turn (fell y s q) = fell_hears w l (suc i) _ _ (suc n, y, next_is w n z e ∙ s, subst (λ x. Front x (Cpu.step c).cpu.outs) (sym q) (step_shows c))
  by_turn (went t s q r a b) = rw q (in_code (suc n) t (omega arith) (next_is w n z e ∙ s) (record { links = a; rows = b }) r)
  by_turn (asked o at_o s f a) = by_op o at_o s f a
    where
      told : (d : Did) → Cpu.step c ≡ d → Hears w l (suc i) d.cpu d.event → Hears w l (suc i) (Cpu.step c).cpu (Cpu.step c).event
      told d q h = subst (λ d. Hears w l (suc i) d.cpu d.event) (sym q) h

      by_op : (o : Instruction) → steps.own z z.core.here.cell ≡ Some (code o) → steps.step w.libs w.memory z ≡ steps.does w.libs w.memory z o → Fine o → Asks w.libs k z c o (Cpu.step c) → Hears w l (suc i) (Cpu.step c).cpu (Cpu.step c).event
      by_op (Set r m) at_o s f a = absurd a
      by_op (Get r b m) at_o s f a = absurd a
      by_op (Sto r m b) at_o s f a = absurd a
      by_op (Own r j) at_o s f a = absurd a
      by_op (Add r x y) at_o s f a = absurd a
      by_op (Sub r x y) at_o s f a = absurd a
      by_op (Mul r x y) at_o s f a = absurd a
      by_op (Less r x y) at_o s f a = absurd a
      by_op (Same r x y) at_o s f a = absurd a
      by_op (Move r x) at_o s f a = absurd a
      by_op (Jump j) at_o s f a = absurd a
      by_op (If0 r j) at_o s f a = absurd a
      by_op (Call j) at_o s f a = told _ a.asks (inr (bind_heard j a.symbol at_o a.unsettled s))
      by_op (Callr r) at_o s f a = absurd a
      by_op Ret at_o s f a = told _ a.asks (homing n z a.calls a.sequel a.frames (omega arith) e (s ∙ ap (calls.returns z) a.newest) a.newest a.fits (record {
        links = refl;
        rows = refl;
      }) refl (record { mem = rel.mem; regs = rel.regs; backs = a.backs; pushed = rel.pushed; ins = rel.ins; outs = rel.outs }))
      by_op (Push r) at_o s f a = absurd a
      by_op (Pop r) at_o s f a = absurd a
      by_op (Out r) at_o s f a = absurd a
      by_op (In r) at_o s f a = absurd a
      by_op (Open r j b) at_o s f a = told _ a.asks (inr (open_heard (low k w.libs w.memory z c rel _ at_o) r j a.word b a.name f.0 a.holds a.counted s))
      by_op (Find r x j) at_o s f a = told _ a.asks (find_heard (low k w.libs w.memory z c rel _ at_o) r x j a.word a.name f.0 f.1 a.holds a.counted s)
      by_op (Close r) at_o s f a = told _ a (close_heard (low k w.libs w.memory z c rel _ at_o) r f s)
      by_op (End r) at_o s f a = told _ a (end_heard (low k w.libs w.memory z c rel _ at_o) r f s)

pub step_heard : StepHeard
step_heard w l i c fine room (in_code n z h e m rel) = subst (λ x. Hears w x (suc i) (Cpu.step c).cpu (Cpu.step c).event) (matches_is l z m) (by_turn w l.layout i n z c fine room h e rel (turn l.layout w.libs w.memory z c rel))
step_heard w l i c fine room (calling n z t h e e' m q r o) = rw q (in_code (suc n) t (omega arith) e' m r)
step_heard w l i c fine room (homing n z ps f fs h e s q x m p idle) = let d : Cpu.step c ≡ did c events.Home = rw (eq-eqb c.pc 0 p) in subst (λ d. Hears w l (suc i) d.cpu d.event) (sym d) (inr (record {
  n = n;
  z = z;
  ps = ps;
  f = f;
  fs = fs;
  made = omega arith;
  there = e;
  next = s;
  frames = q;
  fits = x;
  matches = m;
  idle = idle;
}))
step_heard w l i c fine room (fallen x) = fell_hears w l (suc i) _ _ (fell_more (at w) c x)
