-- What holds of every run: what was shown and taken stays so, and links are whole.
use Rattle.std.specs.Prelude.{◌≡◌, ℕ, ◌<◌, ◌≤◌, Bool, true, false, List, ◌++◌, length, None, Option, Some, slice_get, slice_set}
use Rattle.base.specs.Choices.{on_some}
use Rattle.base.specs.Names.{Name}
use Rattle.library.specs.Library.{Library}
use Rattle.links.specs.Links.{Room}
use Rattle.links.specs.Load.{load}
use Rattle.links.specs.Whole.{Live, Whole}
use Rattle.meaning.specs.State.{num, Held, val, link, label, code, State, Next, goes, ended, lost, wrong}
use Rattle.meaning.specs.Values.{behind}
use Rattle.meaning.specs.Steps.{opens}
use Rattle.meaning.specs.Runs.{begins, after}
use Rattle.meaning.specs.Shown.{shown, used_by}

-- what is shown after n steps is a front of what is shown later
abbrev pub ShownGrows : Type 0
ShownGrows = (ls : List Library) (m : Room) (s : State) (n k : ℕ) → n ≤ k → (more : List ℕ) × (shown (after ls m s k) ≡ shown (after ls m s n) ++ more)

-- words that were taken aren't given back
abbrev pub UsedGrows : Type 0
UsedGrows = (ls : List Library) (m : Room) (s : State) (n k : ℕ) → n ≤ k → used_by (after ls m s n) ≤ used_by (after ls m s k)

-- and are never more than there are
abbrev pub UsedFits : Type 0
UsedFits = (ls : List Library) (m : Room) (ins : List ℕ) (s : State) (n : ℕ) → begins ls m ins ≡ Some s → used_by (after ls m s n) ≤ m.words

-- the state that a program stands in, however it came there
abbrev pub state_of : Next → State
state_of (goes s) = s
state_of (ended n s) = s
state_of (lost s) = s
state_of (wrong s) = s

-- in every state that a program comes to: what is live is bound only to what is live, members of open groups are live, and no name is live twice
abbrev pub RunsWhole : Type 0
RunsWhole = (ls : List Library) (m : Room) (ins : List ℕ) (s : State) (n : ℕ) → begins ls m ins ≡ Some s → Whole (state_of (after ls m s n)).links

-- what no program changes: names, instructions, slots that were settled
abbrev pub lasts : Held → Bool
lasts (val v) = false
lasts (link y None) = false
lasts (link y (Some v)) = true
lasts (label x) = true
lasts (code o) = true

-- what the cell c of the module i holds, live or gone
abbrev pub cell_of : State → ℕ → ℕ → Option Held
cell_of s i c = on_some (slice_get s.cells i) (λ hs. slice_get hs c)

-- a cell that holds such a thing holds it ever after
abbrev pub CellsLast : Type 0
CellsLast = (ls : List Library) (m : Room) (s : State) (n k i c : ℕ) (h : Held) → n ≤ k → lasts h ≡ true → cell_of (state_of (after ls m s n)) i c ≡ Some h → cell_of (state_of (after ls m s k)) i c ≡ Some h

-- a module that went doesn't come back
abbrev pub GoneStays : Type 0
GoneStays = (ls : List Library) (m : Room) (s : State) (n k i : ℕ) → n ≤ k → i < length (state_of (after ls m s n)).links.modules → Live (state_of (after ls m s k)).links.modules i → Live (state_of (after ls m s n)).links.modules i

-- from s to t the register r got 0, and nothing else was done
pub record OnlyZero (r : ℕ) (s t : State) : Type 0 where
  pub links : t.links ≡ s.links
  pub cells : t.cells ≡ s.cells
  pub regs : t.core.regs ≡ slice_set s.core.regs r (num 0)
  pub here : t.core.here ≡ behind s.core.here
  pub frames : t.core.frames ≡ s.core.frames
  pub pushed : t.core.pushed ≡ s.core.pushed
  pub ins : t.ins ≡ s.ins
  pub outs : t.outs ≡ s.outs

-- an open that cannot be loaded gives 0, and no later answer is another for it
abbrev pub OpenRefused : Type 0
OpenRefused = (ls : List Library) (m : Room) (s : State) (r : ℕ) (global : Bool) (x : Name) → load ls m x global s.links ≡ None → (t : State) × (opens ls m s r global x ≡ goes t) × OnlyZero r s t
