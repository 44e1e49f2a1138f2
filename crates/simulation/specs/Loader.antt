-- Where a run stands: what the loader keeps, beside the meaning and the processor. After i steps of the processor the meaning has made n with i at most 2n, and one or two more while it waits.
use Rattle.std.specs.Prelude.{◌≡◌, ℕ, suc, ◌+◌, ◌≤◌, List, ◌∷◌}
use Rattle.library.specs.Library.{Library}
use Rattle.links.specs.Links.{Place, Links, Room}
use Rattle.meaning.specs.State.{Sequel, Frame, pending, State, Next, goes}
use Rattle.meaning.specs.Calls.{returns}
use Rattle.meaning.specs.Steps.{step}
use Rattle.meaning.specs.Runs.{after}
use Rattle.processor.specs.Cpu
use Rattle.processor.specs.Cpu.{Processor}
use Rattle.processor.specs.declared.Event.TheVariants.{Continue}
use Rattle.simulation.specs.Layout.{Layout, FitsFrame}
use Rattle.simulation.specs.Relation.{Rel, Idle}
use Rattle.simulation.specs.Rows.{Row, pendings}
use Rattle.simulation.specs.Says.{Fell}

-- what the loader keeps: where modules lie, what is loaded and bound, pending calls
pub record Loader : Type 0 where
  pub layout : Layout
  pub links : Links
  pub rows : List Row

-- other pending calls in the place of these
abbrev pub with_rows : Loader → List Row → Loader
with_rows l rs = record { layout = l.layout; links = l.links; rows = rs }

-- other links in the place of these
abbrev pub with_links : Loader → Links → Loader
with_links l ks = record { layout = l.layout; links = ks; rows = l.rows }

-- a program, the room that it has, and the state that it began with
pub record World : Type 0 where
  pub libs : List Library
  pub memory : Room
  pub begin : State

-- the program after n steps of the meaning
abbrev pub at : World → ℕ → Next
at w n = after w.libs w.memory w.begin n

-- the loader's links and pending calls are those of the meaning
pub record Matches (l : Loader) (z : State) : Type 0 where
  pub links : z.links ≡ l.links
  pub rows : pendings l.layout z.core.frames ≡ l.rows

-- i steps of the processor were made: it is in code; at a call whose slot was just bound; back at address 0; or there is no meaning any more
pub data Stands (w : World) (l : Loader) (i : ℕ) (c : Processor) : Type 0 where
  in_code : (n : ℕ) (z : State) → i ≤ n + n → at w n ≡ goes z → Matches l z → Rel w.libs l.layout z c → Stands w l i c
  calling : (n : ℕ) (z t : State) → i ≤ 1 + (n + n) → at w n ≡ goes z → at w (suc n) ≡ goes t → Matches l t → (Cpu.step c).event ≡ Continue → Rel w.libs l.layout t (Cpu.step c).cpu → c.outs ≡ z.outs → Stands w l i c
  homing : (n : ℕ) (z : State) (ps : List Place) (f : Sequel) (fs : List Frame) → i ≤ 1 + (n + n) → at w n ≡ goes z → step w.libs w.memory z ≡ returns z (pending ps f ∷ fs) → z.core.frames ≡ pending ps f ∷ fs → FitsFrame l.layout (pending ps f) → Matches l z → c.pc ≡ 0 → Idle w.libs l.layout z fs c → Stands w l i c
  fallen : Fell (at w) c.outs → Stands w l i c

-- the processor waits for the loader, which is to go on with the newest pending calls
pub record Between (w : World) (l : Loader) (i : ℕ) (c : Processor) : Type 0 where
  pub n : ℕ
  pub z : State
  pub ps : List Place
  pub f : Sequel
  pub fs : List Frame
  pub made : i ≤ 2 + (n + n)
  pub there : at w n ≡ goes z
  pub next : step w.libs w.memory z ≡ returns z (pending ps f ∷ fs)
  pub frames : z.core.frames ≡ pending ps f ∷ fs
  pub fits : FitsFrame l.layout (pending ps f)
  pub matches : Matches l z
  pub idle : Idle w.libs l.layout z fs c
