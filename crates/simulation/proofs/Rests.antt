-- The loader goes on with pending calls: each thing that it does is a step of the meaning.
use Rattle.std.specs.List.{AllByRecursion}
use Rattle.std.specs.Prelude.{filter}
use Rattle.std.proofs.Common.{◌≡◌, ℕ, suc, List, [], ◌∷◌, length, sym, refl, ap, ◌∙◌, subst, arith}
use Rattle.std.proofs.lemmas.Bool.{eq-eqb}
use Rattle.base.specs.Lists.{has}
use Rattle.library.specs.Library.{Library}
use Rattle.links.specs.Links.{Place, Links, Room}
use Rattle.links.specs.Close.{leaving, unload, unload_all, fini_calls}
use Rattle.meaning.specs.State as state
use Rattle.meaning.specs.State.{num, Held, Sequel, gives, drops, ends, stops, pending, State, goes}
use Rattle.meaning.specs.Calls as calls
use Rattle.meaning.specs.Steps as steps
use Rattle.processor.specs.Cpu.{Processor, called}
use Rattle.simulation.proofs.Plain.{values_put}
use Rattle.simulation.specs.Layout.{Layout, addr_place, FitsPlace, FitsSequel, FitsFrame}
use Rattle.simulation.specs.Relation.{Mem}
use Rattle.simulation.specs.Rows.{stop, Row, row, resumes, pendings}
use Rattle.simulation.specs.Loader.{Loader, with_rows, World, at, Stands, in_code, Between}
use Rattle.simulation.specs.Handlers.{GoesOn, RowGoesOn}
use Rattle.simulation.proofs.Under.{under_unload, mem_under}
use Rattle.simulation.proofs.Found.{calls_fit}

-- it stands nowhere: what is pending goes on
pub nowhere_step : (ls : List Library) (m : Room) (s : State) → s.core.here.cell ≡ 8589934592 → steps.step ls m s ≡ calls.returns s s.core.frames
nowhere_step ls m s e = rw (eq-eqb s.core.here.cell 8589934592 e)

pub next_is : (w : World) (n : ℕ) (z : State) → at w n ≡ goes z → at w (suc n) ≡ steps.step w.libs w.memory z
next_is w n z e = ap (λ x. steps.then x (steps.step w.libs w.memory)) e

pub finis_fit : (ls : List Library) (k : Layout) (ks : Links) (css : List (List Held)) (ws : List ℕ) → Mem ls k ks css ws → (js : List ℕ) → AllByRecursion (FitsPlace k) (fini_calls ks js)
finis_fit ls k ks css ws mem js = calls_fit k ks.modules ks.used (length ws) mem.ground (λ l. l.finis) (λ l f. f.finis) _

module _ (w : World) (l : Loader) (i : ℕ) (c : Processor) (b : Between w l i c) where
  abbrev k : Layout
  k = l.layout

  then_is : at w (suc b.n) ≡ calls.returns b.z (pending b.ps b.f ∷ b.fs)
  then_is = next_is w b.n b.z b.there ∙ b.next

  next_call : (p : Place) (ps : List Place) (f : Sequel) → FitsFrame k (pending (p ∷ ps) f) → at w (suc b.n) ≡ goes (state.moved b.z b.z.core.regs p (pending ps f ∷ b.fs)) → Stands w (with_rows l (row ps (resumes k f) ∷ pendings k b.fs)) i (called c (addr_place k p) 0)
  next_call p ps f h e = in_code (suc b.n) _ (omega (arith, b.made)) e (record {
    links = b.matches.links;
    rows = refl;
  }) (record {
    mem = b.idle.mem;
    regs = b.idle.regs;
    here = record { is = refl; fit = h.0.0 };
    backs = record { rest = b.idle.backs.rest; are = ap (λ z. 0 ∷ z) b.idle.backs.are; fit = ((h.0.1, h.1), b.idle.backs.fit) };
    pushed = b.idle.pushed;
    ins = b.idle.ins;
    outs = b.idle.outs;
  })

  follow : (f : Sequel) → FitsSequel k f → at w (suc b.n) ≡ calls.follows b.z f b.fs → GoesOn w l i c (pendings k b.fs) [] (resumes k f)
  follow (gives r v p) h e = (
    h.0,
    in_code (suc b.n) _ (omega (arith, b.made)) e (record {
      links = b.matches.links;
      rows = refl;
    }) (record {
      mem = b.idle.mem;
      regs = values_put k b.z.core.regs c.regs r v b.idle.regs h.1;
      here = record { is = refl; fit = h.2 };
      backs = b.idle.backs;
      pushed = b.idle.pushed;
      ins = b.idle.ins;
      outs = b.idle.outs;
    }),
  )
  follow (drops js r p) h e = (
    h.0,
    in_code (suc b.n) _ (omega (arith, b.made)) e (record {
      links = ap (unload js) b.matches.links;
      rows = refl;
    }) (record {
      mem = mem_under w.libs k b.z.links b.z.cells c.words (unload_all (filter (λ j. has j (leaving b.z.links)) js) b.z.links.modules) (under_unload (filter (λ j. has j (leaving b.z.links)) js) b.z.links.modules) b.idle.mem;
      regs = values_put k b.z.core.regs c.regs r (num 1) b.idle.regs (omega arith);
      here = record { is = refl; fit = h.1 };
      backs = b.idle.backs;
      pushed = b.idle.pushed;
      ins = b.idle.ins;
      outs = b.idle.outs;
    }),
  )
  follow (ends v) h e = record {
    n = suc b.n;
    z = calls.ending b.z v;
    ps = fini_calls b.z.links b.z.links.order;
    f = stops v;
    fs = [];
    made = omega (arith, b.made);
    there = e;
    next = nowhere_step w.libs w.memory (calls.ending b.z v) refl;
    frames = refl;
    fits = (finis_fit w.libs k b.z.links b.z.cells c.words b.idle.mem b.z.links.order, h);
    matches = record { links = b.matches.links; rows = λ t. row (fini_calls (b.matches.links t) (b.matches.links t).order) (stop v) ∷ [] };
    idle = record { mem = b.idle.mem; regs = b.idle.regs; backs = record { rest = c.backs; are = refl; fit = tt }; pushed = b.idle.pushed; ins = b.idle.ins; outs = b.idle.outs };
  }
  follow (stops v) h e = (suc b.n, b.z, e, sym b.idle.outs)

  goes_on : (ps : List Place) (f : Sequel) → FitsFrame k (pending ps f) → at w (suc b.n) ≡ calls.returns b.z (pending ps f ∷ b.fs) → GoesOn w l i c (pendings k b.fs) ps (resumes k f)
  goes_on [] f h e = follow f h.1 e
  goes_on (p ∷ ps) f h e = (h.0.0, next_call p ps f h e)

  by_row : (r : Row) (rs : List Row) → l.rows ≡ r ∷ rs → GoesOn w l i c rs r.calls r.after
  by_row r rs e = subst (λ x. x) (λ t. GoesOn w l i c (tails t) (heads t).calls (heads t).after) (goes_on b.ps b.f b.fits then_is)
    where
      both : row b.ps (resumes k b.f) ∷ pendings k b.fs ≡ r ∷ rs
      both = sym (ap (pendings k) b.frames) ∙ b.matches.rows ∙ e

      heads : row b.ps (resumes k b.f) ≡ r
      heads = cc

      tails : pendings k b.fs ≡ rs
      tails = cc

pub row_goes_on : RowGoesOn
row_goes_on w l i c r rs e b = by_row w l i c b r rs e
