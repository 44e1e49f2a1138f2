-- When a state of the meaning and one of the processor stand for the same. Of the memory only the words of live modules count.
use Rattle.std.specs.List.{AllByRecursion}
use Rattle.std.specs.Prelude.{◌≡◌, ℕ, ◌+◌, ◌<◌, List, ◌++◌, map, length, None, Option, Some, slice_get}
use Rattle.library.specs.Library.{Symbol, slot, Library, label_at}
use Rattle.library.specs.Fine.{Fine, InCells}
use Rattle.links.specs.Links.{Place, Module, Links}
use Rattle.links.specs.Scope.{live_at}
use Rattle.meaning.specs.State.{Value, Held, val, link, label, code, Frame, State}
use Rattle.processor.specs.Cpu.{Processor}
use Rattle.image.specs.Encode.{encode}
use Rattle.simulation.specs.Layout.{Layout, base_of, size_of, Ground, addr, addr_place, addr_back, Fits, FitsPlace, FitsFrame}

-- w is the word for what cell j of a module of z cells holds
abbrev pub Holds : List Library → Layout → ℕ → ℕ → Held → ℕ → Type 0
Holds ls k z j (val v) w = (w ≡ addr k v) × Fits k v
Holds ls k z j (link y None) w = w ≡ 0
Holds ls k z j (link y (Some v)) w = (w ≡ addr k v) × Fits k v
Holds ls k z j (label x) w = label_at ls w ≡ Some x
Holds ls k z j (code o) w = (w ≡ encode o j) × Fine o × InCells o z

-- the words from the base of the module i on are those of its cells
pub record Kept (ls : List Library) (k : Layout) (ws : List ℕ) (i : ℕ) (x : Module) (hs : List Held) : Type 0 where
  pub sized : length hs ≡ size_of k i
  pub slots : (j : ℕ) (y : Symbol) (o : Option Value) → slice_get hs j ≡ Some (link y o) → slice_get x.lib.cells j ≡ Some (slot y)
  pub cell : (j : ℕ) (h : Held) → slice_get hs j ≡ Some h → (w : ℕ) × (slice_get ws (base_of k i + j) ≡ Some w) × Holds ls k (size_of k i) j h w

-- the memory: modules have their places in it, and live ones their words
pub record Mem (ls : List Library) (k : Layout) (ks : Links) (css : List (List Held)) (ws : List ℕ) : Type 0 where
  pub ground : Ground k ks.modules ks.used (length ws)
  pub held : length css ≡ length ks.modules
  pub numbered : length ks.groups < ks.used
  pub cells : (i : ℕ) (x : Module) (hs : List Held) → live_at ks.modules i ≡ Some x → slice_get css i ≡ Some hs → Kept ls k ws i x hs

-- values as words: of registers, and of what was pushed
pub record Values (k : Layout) (vs : List Value) (ns : List ℕ) : Type 0 where
  pub are : ns ≡ map (addr k) vs
  pub fit : AllByRecursion (Fits k) vs

-- a place as an address
pub record At (k : Layout) (p : Place) (n : ℕ) : Type 0 where
  pub is : n ≡ addr_place k p
  pub fit : FitsPlace k p

-- frames as what the processor has to return to; behind them it may have more, which an end has forgotten
pub record Backs (k : Layout) (fs : List Frame) (ns : List ℕ) : Type 0 where
  pub rest : List ℕ
  pub are : ns ≡ map (addr_back k) fs ++ rest
  pub fit : AllByRecursion (FitsFrame k) fs

-- the states stand for the same, and the processor is about to do the instruction that the meaning is at
pub record Rel (ls : List Library) (k : Layout) (s : State) (c : Processor) : Type 0 where
  pub mem : Mem ls k s.links s.cells c.words
  pub regs : Values k s.core.regs c.regs
  pub here : At k s.core.here c.pc
  pub backs : Backs k s.core.frames c.backs
  pub pushed : Values k s.core.pushed c.pushed
  pub ins : c.ins ≡ s.ins
  pub outs : c.outs ≡ s.outs

-- the same, wherever the processor is: the loader is to go on; fs are the frames behind the pending calls
pub record Idle (ls : List Library) (k : Layout) (s : State) (fs : List Frame) (c : Processor) : Type 0 where
  pub mem : Mem ls k s.links s.cells c.words
  pub regs : Values k s.core.regs c.regs
  pub backs : Backs k fs c.backs
  pub pushed : Values k s.core.pushed c.pushed
  pub ins : c.ins ≡ s.ins
  pub outs : c.outs ≡ s.outs
