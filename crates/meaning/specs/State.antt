-- The state of a program: what is loaded, what cells hold, what runs.
use Rattle.std.specs.Prelude.{ℕ, ◌+◌, List, [], ◌∷◌, ◌++◌, None, Option, Some, slice_get}
use Rattle.base.specs.Choices.{opt, on_some}
use Rattle.base.specs.Names.{Name}
use Rattle.library.specs.Library.{Symbol, Instruction, Cell, number, ref, at, slot, named, instruction}
use Rattle.links.specs.Links.{Place, Links}
use Rattle.links.specs.Scope.{live_at, resolve}
use Rattle.links.specs.Load.{Loaded}

-- a number, or a place: a module and a cell
pub data Value : Type 0 where
  num : ℕ → Value
  place : ℕ → ℕ → Value

-- what a cell holds: a value; a slot's symbol and what it is settled to; a name; an instruction
pub data Held : Type 0 where
  val : Value → Held
  link : Symbol → Option Value → Held
  label : Name → Held
  code : Instruction → Held

-- what follows when pending calls are through: a value goes to a register; modules go; the program ends; it has ended
pub data Sequel : Type 0 where
  gives : ℕ → Value → Place → Sequel
  drops : List ℕ → ℕ → Place → Sequel
  ends : ℕ → Sequel
  stops : ℕ → Sequel

-- an address to go back to, or calls that are pending and what follows them
pub data Frame : Type 0 where
  back : Place → Frame
  pending : List Place → Sequel → Frame

-- what runs: registers, where it is, calls that wait, what was pushed
pub record Core : Type 0 where
  pub regs : List Value
  pub here : Place
  pub frames : List Frame
  pub pushed : List Value

-- what is loaded, what cells hold, what runs, what is read and shown
pub record State : Type 0 where
  pub links : Links
  -- by module, by cell
  pub cells : List (List Held)
  pub core : Core
  pub ins : List ℕ
  pub outs : List ℕ

-- what a step comes to
pub data Next : Type 0 where
  goes : State → Next
  ended : ℕ → State → Next
  lost : State → Next
  wrong : State → Next

-- numbers are below 2^64; among what is shown it stands for a read
abbrev pub all : ℕ
all = 18446744073709551616

-- another core in the place of this one
abbrev pub with_core : State → Core → State
with_core s c = record { links = s.links; cells = s.cells; core = c; ins = s.ins; outs = s.outs }

-- other links and cells in the place of these
abbrev pub with_links : State → Links → List (List Held) → State
with_links s k cs = record { links = k; cells = cs; core = s.core; ins = s.ins; outs = s.outs }

-- other registers, place and frames
abbrev pub moved : State → List Value → Place → List Frame → State
moved s rs p fs = with_core s (record { regs = rs; here = p; frames = fs; pushed = s.core.pushed })

-- what the cell k of the module i holds, while the module is live
abbrev pub held_at : State → ℕ → ℕ → Option Held
held_at s i k = on_some (live_at s.links.modules i) (λ x. on_some (slice_get s.cells i) (λ hs. slice_get hs k))

-- the place k cells behind a definition; 0 where there is none
abbrev pub place_of : Option Place → ℕ → Value
place_of None k = num 0
place_of (Some p) k = place p.host (p.cell + k)

-- a cell of the module me as it begins: refs are settled, slots aren't
abbrev pub first_held : Links → ℕ → Cell → Held
first_held k me (number n) = val (num n)
first_held k me (ref s n must) = val (place_of (resolve k me s) n)
first_held k me (at n) = val (place me n)
first_held k me (slot s) = link s None
first_held k me (named x) = label x
first_held k me (instruction o) = code o

-- the cells of the module me as they begin
abbrev pub first_helds : Links → ℕ → List Cell → List Held
first_helds k me [] = []
first_helds k me (c ∷ cs) = first_held k me c ∷ first_helds k me cs

-- the cells of these modules as they begin
abbrev pub new_cells : Links → List ℕ → List (List Held)
new_cells k [] = []
new_cells k (i ∷ is) = opt (slice_get k.modules i) [] (λ x. first_helds k i x.lib.cells) ∷ new_cells k is

-- the state with what a load has brought in
abbrev pub loaded : State → Loaded → State
loaded s l = with_links s l.links (s.cells ++ new_cells l.links l.new)
