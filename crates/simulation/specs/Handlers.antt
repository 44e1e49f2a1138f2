-- What the loader may rely on when a step has told its event, and what it has to do.
use Rattle.std.specs.List.{AllByRecursion}
use Rattle.std.specs.Prelude.{◌≡◌, ℕ, suc, ◌+◌, ◌<◌, Bool, true, false, not, ◌&&◌, ◌⊎◌, List, [], ◌∷◌, ◌++◌, length, ◌==◌, None, Some, slice_get}
use Rattle.base.specs.Names.{Name}
use Rattle.library.specs.Library.{Symbol, slot, Library, any_version, main_name, label_at}
use Rattle.library.specs.Text.{reads}
use Rattle.library.specs.Fine.{LibraryFine}
use Rattle.links.specs.Links.{Place, place_at, Module, Links}
use Rattle.links.specs.Scope.{live_at, resolve}
use Rattle.links.specs.Symbols.{find_def}
use Rattle.links.specs.Load.{Loaded, load}
use Rattle.links.specs.Close.{leaving, unload, close_group, fini_calls, is_open, found_in, slot_bound}
use Rattle.meaning.specs.State.{State, ended, lost, place_of}
use Rattle.meaning.specs.Runs.{blank}
use Rattle.processor.specs.Cpu
use Rattle.processor.specs.Cpu.{Processor, poked, called, gone, with_reg, fresh, wide}
use Rattle.processor.specs.declared.Event.{Event}
use Rattle.processor.specs.declared.Event.TheVariants as events
use Rattle.processor.specs.Laid.{with_words}
use Rattle.simulation.specs.Layout.{Layout, base_of, size_of, addr, addr_place, FitsPlace}
use Rattle.simulation.specs.Rows.{Resume, resume, discard, finish, stop, Row, row, closing_rows}
use Rattle.simulation.specs.Images.{images, laid_all}
use Rattle.simulation.specs.Says.{Fell, RoomOf, Starts}
use Rattle.simulation.specs.Loader.{Loader, with_rows, with_links, World, at, Stands, Between}

-- the program has ended with v, and os was shown
abbrev pub EndedAt : World → ℕ → List ℕ → Type 0
EndedAt w v os = (n : ℕ) × (z : State) × (at w n ≡ ended v z) × (z.outs ≡ os)

-- the program is lost, and os was shown
abbrev pub LostAt : World → List ℕ → Type 0
LostAt w os = (n : ℕ) × (z : State) × (at w n ≡ lost z) × (z.outs ≡ os)

-- bind: the slot at address a is to be settled; the address tells the live module and the cell
pub record Binding (w : World) (l : Loader) (i : ℕ) (c : Processor) (a : ℕ) : Type 0 where
  pub me : ℕ
  pub x : Module
  pub j : ℕ
  pub y : Symbol
  pub live : live_at l.links.modules me ≡ Some x
  pub at_slot : slice_get x.lib.cells j ≡ Some (slot y)
  pub address : a ≡ base_of l.layout me + j
  pub inside : j < size_of l.layout me
  pub within : a < length c.words
  pub sized : (i' : ℕ) (x' : Module) → live_at l.links.modules i' ≡ Some x' → size_of l.layout i' ≡ length x'.lib.cells
  pub alone : (i' : ℕ) (x' : Module) (j' : ℕ) → live_at l.links.modules i' ≡ Some x' → a ≡ base_of l.layout i' + j' → j' < size_of l.layout i' → (i' ≡ me) × (j' ≡ j)
  -- its symbol means nothing: the program is lost
  pub nowhere : resolve l.links me y ≡ None → LostAt w c.outs
  -- its symbol means p: the slot's word becomes p's address, and the step is made again
  pub settled : (p : Place) → resolve l.links me y ≡ Some p → Stands w (with_links l (slot_bound l.links me j p)) i (poked c a (addr_place l.layout p))

-- a load was made: with its images laid down at their starts, these calls are pending; k is the layout with the new modules
abbrev pub Opened : World → Loader → ℕ → Processor → Loaded → List Place → Resume → Type 0
Opened w l i c q ps f = (k : Layout) × (k.bases ≡ l.layout.bases ++ q.starts) × Between w (record { layout = k; links = q.links; rows = row ps f ∷ l.rows }) i (with_words c (laid_all c.words q.starts (images w.libs k q.links q.new)))

-- open: the number of the name's cell, the register, whether the group is global
pub record Opening (w : World) (l : Loader) (i : ℕ) (c : Processor) (n r : ℕ) (global : Bool) : Type 0 where
  pub x : Name
  pub label : label_at w.libs n ≡ Some x
  pub small : r < 8
  -- it can't be loaded: the register gets 0
  pub refused : load w.libs w.memory x global l.links ≡ None → Stands w l i (with_reg c r 0)
  -- it is loaded: inits are pending, then the register gets the group's number
  pub opened : (q : Loaded) → load w.libs w.memory x global l.links ≡ Some q → Opened w l i c q q.calls (resume r (length l.links.groups) c.pc)

-- find: the register, the register of the group, the number of the name's cell
pub record Finding (w : World) (l : Loader) (i : ℕ) (c : Processor) (r s n : ℕ) : Type 0 where
  pub x : Name
  pub label : label_at w.libs n ≡ Some x
  pub small : r < 8
  pub small_s : s < 8
  pub h : ℕ
  pub group : slice_get c.regs s ≡ Some h
  -- the register gets the address that the name has in the group, or 0
  pub found : Stands w l i (with_reg c r (addr l.layout (place_of (found_in l.links h x) 0)))

-- whether the group h may be closed: it isn't 0, it is open, and no finis of a close are being called
abbrev pub closes : Loader → ℕ → Bool
closes l h = not (h == 0) && (is_open l.links h && not (closing_rows l.rows))

-- with the links ks, in which a group is closed, finis of what leaves are pending; then what still leaves goes, the register gets 1, and the code goes on at a
abbrev pub closed : Loader → ℕ → ℕ → Links → Loader
closed l r a ks = record { layout = l.layout; links = ks; rows = row (fini_calls ks (leaving ks)) (discard (leaving ks) r a) ∷ l.rows }

-- close: the register of the group
pub record Closing (w : World) (l : Loader) (i : ℕ) (c : Processor) (r : ℕ) : Type 0 where
  pub small : r < 8
  pub h : ℕ
  pub group : slice_get c.regs r ≡ Some h
  -- it may not be closed: the register gets 0
  pub refused : closes l h ≡ false → Stands w l i (with_reg c r 0)
  pub shut : closes l h ≡ true → Between w (closed l r c.pc (close_group l.links h)) i c

-- the finis of all live modules are pending, and nothing else; then the program has ended with v
abbrev pub finishing : Loader → ℕ → Loader
finishing l v = with_rows l (row (fini_calls l.links l.links.order) (stop v) ∷ [])

-- end: the register of the number
pub record Ending (w : World) (l : Loader) (i : ℕ) (c : Processor) (r : ℕ) : Type 0 where
  pub small : r < 8
  pub v : ℕ
  pub value : slice_get c.regs r ≡ Some v
  pub ends : Between w (finishing l v) i c

-- what holds when a step told an event; c: the processor behind the step, i: steps made, this one too
abbrev pub Hears : World → Loader → ℕ → Processor → Event → Type 0
Hears w l i c events.Continue = Stands w l i c
Hears w l i c events.Home = Fell (at w) c.outs ⊎ Between w l i c
Hears w l i c events.Stuck = Fell (at w) c.outs
Hears w l i c (events.Bind a) = Fell (at w) c.outs ⊎ Binding w l i c a
Hears w l i c (events.Open n r global) = Fell (at w) c.outs ⊎ Opening w l i c n r global
Hears w l i c (events.Find r s n) = Fell (at w) c.outs ⊎ Finding w l i c r s n
Hears w l i c (events.Close r) = Fell (at w) c.outs ⊎ Closing w l i c r
Hears w l i c (events.End r) = Fell (at w) c.outs ⊎ Ending w l i c r

-- it holds after every step, of a program whose libraries are in range and whose room is the processor's memory
abbrev pub StepHeard : Type 0
StepHeard = (w : World) (l : Loader) (i : ℕ) (c : Processor) → AllByRecursion LibraryFine w.libs → w.memory.words ≡ length c.words → Stands w l i c → Hears w l (suc i) (Cpu.step c).cpu (Cpu.step c).event

-- what holds when the loader goes on with its newest pending calls; rs: the others
abbrev pub GoesOn : World → Loader → ℕ → Processor → List Row → List Place → Resume → Type 0
GoesOn w l i c rs (p ∷ ps) f = FitsPlace l.layout p × Stands w (with_rows l (row ps f ∷ rs)) i (called c (addr_place l.layout p) 0)
GoesOn w l i c rs [] (resume r x a) = (r < 8) × Stands w (with_rows l rs) i (gone (with_reg c r x) a)
GoesOn w l i c rs [] (discard js r a) = (r < 8) × Stands w (record { layout = l.layout; links = unload js l.links; rows = rs }) i (gone (with_reg c r 1) a)
GoesOn w l i c rs [] (finish n) = Between w (finishing l n) i c
GoesOn w l i c rs [] (stop n) = EndedAt w n c.outs

-- it holds of every call that is pending, and of all that can follow
abbrev pub RowGoesOn : Type 0
RowGoesOn = (w : World) (l : Loader) (i : ℕ) (c : Processor) (r : Row) (rs : List Row) → l.rows ≡ r ∷ rs → Between w l i c → GoesOn w l i c rs r.calls r.after

-- a loader that has loaded nothing
abbrev pub nothing_loaded : Loader
nothing_loaded = record { layout = record { bases = []; sizes = [] }; links = (blank []).links; rows = [] }

-- a text whose first library has a main and can be loaded: on a fresh processor, with its images laid down, its inits and main are pending
abbrev pub Begins : Type 0
Begins = (t : List ℕ) (ws : List ℕ) (gap : ℕ) (ins : List ℕ) (l : Library) (ls : List Library) (k : ℕ) (q : Loaded) → reads t ≡ Some (l ∷ ls) → length ws < wide → find_def true l.defs (record { name = main_name; version = any_version }) ≡ Some k → load (l ∷ ls) (RoomOf (length ws) gap) l.name true (blank ins).links ≡ Some q → (s : State) × Starts t (length ws) gap ins (l ∷ ls) s × Opened (record { libs = l ∷ ls; memory = RoomOf (length ws) gap; begin = s }) nothing_loaded 0 (fresh ws ins) q (q.calls ++ (place_at 0 k ∷ [])) (finish 0)
