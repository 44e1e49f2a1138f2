-- One step of the processor, and what it is of the meaning.
use Rattle.std.proofs.lemmas.Option.{slice_get_within}
use Rattle.std.specs.List.{AllByRecursion}
use Rattle.std.specs.Prelude.{None, Option, Some, cond, slice_get}
use Rattle.std.proofs.Common.{◌≡◌, ℕ, ◌+◌, ◌<◌, Bool, true, false, eqb, List, [], ◌∷◌, ◌++◌, map, sym, refl, ap, ◌∙◌, arith}
use Rattle.std.proofs.lemmas.Bool.{ne_eqb}
use Rattle.library.specs.Library.{Instruction, Set, Get, Sto, Own, Add, Sub, Mul, Less, Same, Move, Jump, If0, Call, Callr, Ret, Push, Pop, Out, In, Open, Find, Close, End, Library}
use Rattle.library.specs.Fine.{Fine, InCells}
use Rattle.links.specs.Links.{Room}
use Rattle.meaning.specs.State as state
use Rattle.meaning.specs.State.{Value, num, place, Held, val, link, label, code, Frame, back, pending, State, Next, goes, ended, lost, wrong}
use Rattle.meaning.specs.Calls as calls
use Rattle.meaning.specs.Values as values
use Rattle.meaning.specs.Steps as steps
use Rattle.processor.specs.Cpu
use Rattle.processor.specs.Cpu.{Processor, Did}
use Rattle.image.specs.Encode.{encode, fields, apart}
use Rattle.image.proofs.Decode.{fields_back}
use Rattle.simulation.specs.Layout.{Layout, base_of, size_of, addr_back, FitsFrame}
use Rattle.simulation.specs.Relation.{Holds, Rel}
use Rattle.simulation.specs.Turns.{Turn, fell, went, asked}
use Rattle.simulation.proofs.Plain.{Good, held_inv, set_good, move_good, push_good, out_good, pop_good, in_good, jump_good, own_good, if0_good, callr_good, ret_good, get_good, own_there}
use Rattle.simulation.proofs.Sums.{add_good, sub_good, mul_good, less_good, same_good}
use Rattle.simulation.proofs.Memory.{sto_good, call_good, has_word}

module _ (k : Layout) (ls : List Library) (m : Room) (s : State) (c : Processor) (rel : Rel ls k s c) where
  from_good : (n : Next) (d : Did) → steps.step ls m s ≡ n → Cpu.step c ≡ d → Good ls k s c.outs n d → Turn k ls m s c
  from_good (goes t) d e q g = went t e (ap (λ x. x.event) q ∙ g.0) (rw q g.1) g.2 g.3
  from_good (ended n t) d e q g = absurd g
  from_good (lost t) d e q g = absurd g
  from_good (wrong z) d e q g = fell z e g

  pub m_step : (h : Option Held) → state.held_at s s.core.here.host s.core.here.cell ≡ h → steps.step ls m s ≡ steps.here_code h (steps.does ls m s) (wrong s)
  m_step h e = rw (ne_eqb s.core.here.cell 8589934592 (λ q. omega (arith, rel.here.fit.1)), e)

  module _ (o : Instruction) (e : state.held_at s s.core.here.host s.core.here.cell ≡ Some (code o)) where
    pub at_code : (w : ℕ) × (slice_get c.words (base_of k s.core.here.host + s.core.here.cell) ≡ Some w) × Holds ls k (size_of k s.core.here.host) s.core.here.cell (code o) w
    at_code = has_word ls k s c rel s.core.here.host s.core.here.cell (code o) e

    pub c_step : Cpu.step c ≡ Cpu.does c (fields o s.core.here.cell)
    c_step = let w : slice_get c.words c.pc ≡ Some (encode o s.core.here.cell) = ap (slice_get c.words) rel.here.is ∙ at_code.1 ∙ ap Some at_code.2.0 in rw (ne_eqb c.pc 0 (λ q. omega (arith, rel.here.is, rel.mem.ground.placed.first s.core.here.host rel.here.fit.0)), w) (ap (Cpu.does c) (fields_back o s.core.here.cell at_code.2.1))

    pub low : s.core.here.cell < size_of k s.core.here.host
    low = let x = held_inv s s.core.here.host s.core.here.cell (code o) e in omega (arith, slice_get_within x.1 s.core.here.cell (code o) x.4, (rel.mem.cells s.core.here.host x.0 x.1 x.2 x.3).sized)

  by_good : (o : Instruction) → state.held_at s s.core.here.host s.core.here.cell ≡ Some (code o) → Good ls k s c.outs (steps.does ls m s o) (Cpu.does c (fields o s.core.here.cell)) → Turn k ls m s c
  by_good o e g = from_good _ _ (m_step _ e) (c_step o e) g

  -- the word at an own cell that an instruction names
  own_word : (j : ℕ) (h : Held) → s.core.here.cell < size_of k s.core.here.host → j < size_of k s.core.here.host → steps.own s j ≡ Some h → (w : ℕ) × (slice_get c.words (Cpu.there c (apart j s.core.here.cell)) ≡ Some w) × Holds ls k (size_of k s.core.here.host) j h w
  own_word j h l i q = let t = has_word ls k s c rel s.core.here.host j h q in (t.0, ap (slice_get c.words) (own_there ls k s c rel m l j i) ∙ t.1, t.2)

  on_code : (o : Instruction) → state.held_at s s.core.here.host s.core.here.cell ≡ Some (code o) → Fine o → InCells o (size_of k s.core.here.host) → Turn k ls m s c
  on_code (Set r n) e f i = by_good _ e (set_good ls k s c rel m (low _ e) r n f)
  on_code (Get r a n) e f i = by_good _ e (get_good ls k s c rel m (low _ e) r a n f)
  on_code (Sto a n r) e f i = by_good _ e (sto_good ls k s c rel m (low _ e) a n r f)
  on_code (Own r j) e f i = by_good _ e (own_good ls k s c rel m (low _ e) r j i)
  on_code (Add r a b) e f i = by_good _ e (add_good ls k s c rel m (low _ e) r a b)
  on_code (Sub r a b) e f i = by_good _ e (sub_good ls k s c rel m (low _ e) r a b)
  on_code (Mul r a b) e f i = by_good _ e (mul_good ls k s c rel m (low _ e) r a b)
  on_code (Less r a b) e f i = by_good _ e (less_good ls k s c rel m (low _ e) r a b)
  on_code (Same r a b) e f i = by_good _ e (same_good ls k s c rel m (low _ e) r a b)
  on_code (Move r a) e f i = by_good _ e (move_good ls k s c rel m (low _ e) r a f)
  on_code (Jump j) e f i = by_good _ e (jump_good ls k s c rel m (low _ e) j i)
  on_code (If0 r j) e f i = by_good _ e (if0_good ls k s c rel m (low _ e) r j i)
  on_code (Call j) e f i = go (steps.own s j) refl
    where
      go : (o : Option Held) → steps.own s j ≡ o → Turn k ls m s c
      go None q = fell s (m_step _ e ∙ ap (steps.calls_through s j) q) (sym rel.outs)
      go (Some (val v)) q = fell s (m_step _ e ∙ ap (steps.calls_through s j) q) (sym rel.outs)
      go (Some (link y None)) q = asked (Call j) e (m_step _ e) f (record {
        symbol = y;
        unsettled = q;
        asks = let t = own_word j (link y None) (low _ e) i q in c_step _ e ∙ rw (t.1, t.2, own_there ls k s c rel m (low _ e) j i);
      })
      go (Some (link y (Some v))) q = by_good _ e (call_good ls k s c rel m (low _ e) j y v i q)
      go (Some (label x)) q = fell s (m_step _ e ∙ ap (steps.calls_through s j) q) (sym rel.outs)
      go (Some (code o)) q = fell s (m_step _ e ∙ ap (steps.calls_through s j) q) (sym rel.outs)
  on_code (Callr r) e f i = by_good _ e (callr_good ls k s c rel m (low _ e) r f)
  on_code Ret e f i = go s.core.frames refl
    where
      go : (fs : List Frame) → s.core.frames ≡ fs → Turn k ls m s c
      go [] q = fell s (m_step _ e ∙ ap (calls.returns s) q) (sym rel.outs)
      go (back p ∷ fs) q = by_good _ e (ret_good ls k s c rel m (low _ e) p fs q)
      go (pending ps g ∷ fs) q = asked Ret e (m_step _ e) f (record {
        calls = ps;
        sequel = g;
        frames = fs;
        rest = map (addr_back k) fs ++ rel.backs.rest;
        newest = q;
        home = b;
        backs = record { rest = rel.backs.rest; are = refl; fit = ff.1 };
        fits = ff.0;
        asks = c_step _ e ∙ ap (Cpu.returns c) b;
      })
        where
          b : c.backs ≡ 0 ∷ (map (addr_back k) fs ++ rel.backs.rest)
          b = rel.backs.are ∙ ap (λ x. map (addr_back k) x ++ rel.backs.rest) q

          ff : AllByRecursion (FitsFrame k) (pending ps g ∷ fs)
          ff = rw q at rel.backs.fit
  on_code (Push r) e f i = by_good _ e (push_good ls k s c rel m (low _ e) r f)
  on_code (Pop r) e f i = by_good _ e (pop_good ls k s c rel m (low _ e) r f)
  on_code (Out r) e f i = by_good _ e (out_good ls k s c rel m (low _ e) r f)
  on_code (In r) e f i = by_good _ e (in_good ls k s c rel m (low _ e) r f)
  on_code (Open r j b) e f i = go (steps.own s j) refl
    where
      flag : (b : Bool) → eqb (cond b 1 0) 1 ≡ b
      flag true = refl
      flag false = refl

      go : (o : Option Held) → steps.own s j ≡ o → Turn k ls m s c
      go None q = fell s (m_step _ e ∙ rw q) (sym rel.outs)
      go (Some (val v)) q = fell s (m_step _ e ∙ rw q) (sym rel.outs)
      go (Some (link y o)) q = fell s (m_step _ e ∙ rw q) (sym rel.outs)
      go (Some (label x)) q = let t = own_word j (label x) (low _ e) i q in asked (Open r j b) e (m_step _ e) f (record {
        name = x;
        word = t.0;
        holds = q;
        counted = t.2;
        asks = c_step _ e ∙ rw (t.1, flag b);
      })
      go (Some (code o)) q = fell s (m_step _ e ∙ rw q) (sym rel.outs)
  on_code (Find r a j) e f i = go (steps.own s j) refl
    where
      nums : (o : Option Value) → values.on_num s o (λ h. wrong s) ≡ wrong s
      nums None = refl
      nums (Some (num n)) = refl
      nums (Some (place i l)) = refl

      go : (o : Option Held) → steps.own s j ≡ o → Turn k ls m s c
      go None q = fell s (m_step _ e ∙ rw q (nums (values.reg s a))) (sym rel.outs)
      go (Some (val v)) q = fell s (m_step _ e ∙ rw q (nums (values.reg s a))) (sym rel.outs)
      go (Some (link y o)) q = fell s (m_step _ e ∙ rw q (nums (values.reg s a))) (sym rel.outs)
      go (Some (label x)) q = let t = own_word j (label x) (low _ e) i q in asked (Find r a j) e (m_step _ e) f (record {
        name = x;
        word = t.0;
        holds = q;
        counted = t.2;
        asks = c_step _ e ∙ rw t.1;
      })
      go (Some (code o)) q = fell s (m_step _ e ∙ rw q (nums (values.reg s a))) (sym rel.outs)
  on_code (Close r) e f i = asked (Close r) e (m_step _ e) f (c_step _ e)
  on_code (End r) e f i = asked (End r) e (m_step _ e) f (c_step _ e)

  pub turn : Turn k ls m s c
  turn = go (state.held_at s s.core.here.host s.core.here.cell) refl
    where
      go : (o : Option Held) → state.held_at s s.core.here.host s.core.here.cell ≡ o → Turn k ls m s c
      go None e = fell s (m_step _ e) (sym rel.outs)
      go (Some (val v)) e = fell s (m_step _ e) (sym rel.outs)
      go (Some (link y o)) e = fell s (m_step _ e) (sym rel.outs)
      go (Some (label x)) e = fell s (m_step _ e) (sym rel.outs)
      go (Some (code o)) e = let t = at_code o e in on_code o e t.2.1 t.2.2

pub turns : Rattle.simulation.specs.Turns.Turns
turns k ls m s c rel = turn k ls m s c rel
