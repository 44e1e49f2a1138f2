-- What addresses tell apart, and which words a step changes.
use Rattle.std.specs.Prelude.{◌≡◌, ℕ, ◌+◌, ◌<◌, ◌≤◌, ◌⊎◌, List, ◌≢◌, Some, slice_get, slice_set}
use Rattle.library.specs.Library.{Library}
use Rattle.links.specs.Links.{Module, Links, Room}
use Rattle.links.specs.Scope.{live_at}
use Rattle.meaning.specs.State.{Value, place, val, State, goes}
use Rattle.meaning.specs.Steps as steps
use Rattle.processor.specs.Cpu
use Rattle.processor.specs.Cpu.{Processor}
use Rattle.simulation.specs.Layout.{Layout, base_of, size_of, addr, Fits}
use Rattle.simulation.specs.Relation.{Rel}

-- no two cells of live modules share an address
abbrev pub CellsApart : Type 0
CellsApart = (ls : List Library) (k : Layout) (s : State) (c : Processor) → Rel ls k s c → (i j a b : ℕ) (x y : Module) → live_at s.links.modules i ≡ Some x → live_at s.links.modules a ≡ Some y → j < size_of k i → b < size_of k a → base_of k i + j ≡ base_of k a + b → (i ≡ a) × (j ≡ b)

-- a place's address is never 0
abbrev pub PlaceNot0 : Type 0
PlaceNot0 = (ls : List Library) (k : Layout) (s : State) (c : Processor) → Rel ls k s c → (i j : ℕ) → Fits k (place i j) → addr k (place i j) ≢ 0

-- the address one behind the module i is taken, no cell of a live module has it, and it is behind no other live module
pub record Alone (k : Layout) (ks : Links) (i : ℕ) : Type 0 where
  pub taken : base_of k i + size_of k i < ks.used
  pub no_cell : (a b : ℕ) (y : Module) → live_at ks.modules a ≡ Some y → b < size_of k a → base_of k a + b ≢ base_of k i + size_of k i
  pub behind : (a : ℕ) (y : Module) → live_at ks.modules a ≡ Some y → base_of k a + size_of k a ≡ base_of k i + size_of k i → a ≡ i

-- the address one behind a live module is its own
abbrev pub BehindAlone : Type 0
BehindAlone = (ls : List Library) (k : Layout) (s : State) (c : Processor) → Rel ls k s c → (i : ℕ) (x : Module) → live_at s.links.modules i ≡ Some x → Alone k s.links i

-- from s to t a cell of a live module got a value, and from c to d its word alone was changed
pub record Stored (k : Layout) (s t : State) (c d : Processor) : Type 0 where
  pub host : ℕ
  pub cell : ℕ
  pub value : Value
  pub x : Module
  pub live : live_at s.links.modules host ≡ Some x
  pub inside : cell < size_of k host
  pub cells : t.cells ≡ steps.put_cell s.cells host cell (val value)
  pub words : d.words ≡ slice_set c.words (base_of k host + cell) (addr k value)
  pub others : (i j : ℕ) (y : Module) → live_at s.links.modules i ≡ Some y → j ≤ size_of k i → ((i ≡ host) × (j ≡ cell) → ⊥) → slice_get d.words (base_of k i + j) ≡ slice_get c.words (base_of k i + j)

-- where a step has meaning, the processor changes no word, or the one word of the cell that is written: every other cell of live modules, and the word behind each, keeps its own
abbrev pub StoresOwn : Type 0
StoresOwn = (ls : List Library) (k : Layout) (m : Room) (s t : State) (c : Processor) → Rel ls k s c → steps.step ls m s ≡ goes t → ((Cpu.step c).cpu.words ≡ c.words) ⊎ Stored k s t c (Cpu.step c).cpu
