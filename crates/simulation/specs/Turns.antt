-- What a step of the processor is of the meaning.
use Rattle.std.specs.Prelude.{◌≡◌, ℕ, ◌+◌, List, ◌∷◌, None, Some}
use Rattle.base.specs.Names.{Name}
use Rattle.library.specs.Library.{Symbol, Instruction, Set, Get, Sto, Own, Add, Sub, Mul, Less, Same, Move, Jump, If0, Call, Callr, Ret, Push, Pop, Out, In, Open, Find, Close, End, Library, label_at}
use Rattle.library.specs.Fine.{Fine}
use Rattle.links.specs.Links.{Place, Room}
use Rattle.meaning.specs.State.{link, label, code, Sequel, Frame, pending, State, goes, wrong}
use Rattle.meaning.specs.Steps as steps
use Rattle.processor.specs.Cpu
use Rattle.processor.specs.Cpu.{Processor, Did, did}
use Rattle.processor.specs.declared.Event.{Event}
use Rattle.processor.specs.declared.Event.TheVariants.{Continue}
use Rattle.processor.specs.declared.Event.TheVariants as events
use Rattle.simulation.specs.Layout.{Layout, base_of, FitsFrame}
use Rattle.simulation.specs.Relation.{Backs, Rel}
use Rattle.simulation.specs.Rows.{pendings}

-- a call through the own slot j, which isn't settled: the event has the slot's address
pub record AsksBind (k : Layout) (s : State) (c : Processor) (j : ℕ) (d : Did) : Type 0 where
  pub symbol : Symbol
  pub unsettled : steps.own s j ≡ Some (link symbol None)
  pub asks : d ≡ did c (events.Bind (base_of k s.core.here.host + j))

-- a return to pending calls: the processor comes to address 0
pub record AsksPending (k : Layout) (s : State) (c : Processor) (d : Did) : Type 0 where
  pub calls : List Place
  pub sequel : Sequel
  pub frames : List Frame
  pub rest : List ℕ
  pub newest : s.core.frames ≡ pending calls sequel ∷ frames
  pub home : c.backs ≡ 0 ∷ rest
  pub backs : Backs k frames rest
  pub fits : FitsFrame k (pending calls sequel)
  pub asks : d ≡ did (record { words = c.words; regs = c.regs; pc = 0; backs = rest; pushed = c.pushed; ins = c.ins; outs = c.outs }) Continue

-- an instruction with the name in the own cell j: the event has that name's word
pub record AsksByName (ls : List Library) (s : State) (c : Processor) (j : ℕ) (event : ℕ → Event) (d : Did) : Type 0 where
  pub name : Name
  pub word : ℕ
  pub holds : steps.own s j ≡ Some (label name)
  pub counted : label_at ls word ≡ Some name
  pub asks : d ≡ Cpu.asks c (event word)

-- what a step comes to where it leaves the rest to the loader, by its instruction: the processor asks for what the meaning says
abbrev pub Asks : List Library → Layout → State → Processor → Instruction → Did → Type 0
Asks ls k s c (Set r n) d = ⊥
Asks ls k s c (Get r a n) d = ⊥
Asks ls k s c (Sto r n a) d = ⊥
Asks ls k s c (Own r j) d = ⊥
Asks ls k s c (Add r a b) d = ⊥
Asks ls k s c (Sub r a b) d = ⊥
Asks ls k s c (Mul r a b) d = ⊥
Asks ls k s c (Less r a b) d = ⊥
Asks ls k s c (Same r a b) d = ⊥
Asks ls k s c (Move r a) d = ⊥
Asks ls k s c (Jump j) d = ⊥
Asks ls k s c (If0 r j) d = ⊥
Asks ls k s c (Call j) d = AsksBind k s c j d
Asks ls k s c (Callr r) d = ⊥
Asks ls k s c Ret d = AsksPending k s c d
Asks ls k s c (Push r) d = ⊥
Asks ls k s c (Pop r) d = ⊥
Asks ls k s c (Out r) d = ⊥
Asks ls k s c (In r) d = ⊥
Asks ls k s c (Open r j global) d = AsksByName ls s c j (λ w. events.Open w r global) d
Asks ls k s c (Find r a j) d = AsksByName ls s c j (λ w. events.Find r a w) d
Asks ls k s c (Close r) d = d ≡ Cpu.asks c (events.Close r)
Asks ls k s c (End r) d = d ≡ Cpu.asks c (events.End r)

-- a step has no meaning; or the processor makes it alone, and the states stand for the same again; or it asks the loader
pub data Turn (k : Layout) (ls : List Library) (m : Room) (s : State) (c : Processor) : Type 0 where
  fell : (z : State) → steps.step ls m s ≡ wrong z → z.outs ≡ c.outs → Turn k ls m s c
  went : (t : State) → steps.step ls m s ≡ goes t → (Cpu.step c).event ≡ Continue → Rel ls k t (Cpu.step c).cpu → t.links ≡ s.links → pendings k t.core.frames ≡ pendings k s.core.frames → Turn k ls m s c
  asked : (o : Instruction) → steps.own s s.core.here.cell ≡ Some (code o) → steps.step ls m s ≡ steps.does ls m s o → Fine o → Asks ls k s c o (Cpu.step c) → Turn k ls m s c

-- so it is of every step
abbrev pub Turns : Type 0
Turns = (k : Layout) (ls : List Library) (m : Room) (s : State) (c : Processor) → Rel ls k s c → Turn k ls m s c
