-- What a run may answer, and how many steps of the meaning it has made.
use Rattle.std.specs.Prelude.{◌≡◌, ℕ, ◌+◌, ◌≤◌, true, ◌⊎◌, List, [], ◌∷◌, None, Some}
use Rattle.library.specs.Library.{Library, any_version, main_name}
use Rattle.library.specs.Text.{reads}
use Rattle.links.specs.Symbols.{find_def}
use Rattle.links.specs.Load.{load}
use Rattle.meaning.specs.State.{State, goes}
use Rattle.meaning.specs.Runs.{blank}
use Rattle.processor.specs.Cpu.{Processor}
use Rattle.simulation.specs.declared.Outcome.TheVariants.{NoText, NoStart, Ended, Lost, Going}
use Rattle.simulation.specs.Says.{Fell, RoomOf, Starts, RunSays}
use Rattle.simulation.specs.Loader.{Loader, World, at, Stands}
use Rattle.simulation.specs.Handlers.{EndedAt, LostAt}

-- where a run stands after i steps of the processor, the meaning has made n with i at most 1 + 2n, and has shown the same; or it has no meaning any more
abbrev pub StepsCounted : Type 0
StepsCounted = (w : World) (l : Loader) (i : ℕ) (c : Processor) → Stands w l i c → Fell (at w) c.outs ⊎ ((n : ℕ) × (z : State) × (i ≤ 1 + (n + n)) × (at w n ≡ goes z) × (z.outs ≡ c.outs))

-- what a run may answer once the program has begun, by where it stands
pub record Answers (t : List ℕ) (words gap : ℕ) (ins : List ℕ) (steps lent : ℕ) (w : World) : Type 0 where
  pub going : (l : Loader) (c : Processor) → Stands w l steps c → RunSays t words gap ins steps lent c.outs Going
  pub ended : (v : ℕ) (os : List ℕ) → EndedAt w v os → RunSays t words gap ins steps lent os (Ended v)
  pub lost : (os : List ℕ) → LostAt w os → RunSays t words gap ins steps lent os Lost
  pub fell_going : (os : List ℕ) → Fell (at w) os → RunSays t words gap ins steps lent os Going
  pub fell_ended : (v : ℕ) (os : List ℕ) → Fell (at w) os → RunSays t words gap ins steps lent os (Ended v)
  pub fell_lost : (os : List ℕ) → Fell (at w) os → RunSays t words gap ins steps lent os Lost

-- these answers are right
abbrev pub RunAnswers : Type 0
RunAnswers = (t : List ℕ) (words gap : ℕ) (ins : List ℕ) (steps lent : ℕ) (ls : List Library) (s : State) → Starts t words gap ins ls s → Answers t words gap ins steps lent (record { libs = ls; memory = RoomOf words gap; begin = s })

-- what a run may answer before the program has begun: there is no text, no library, no main, or the first library can't be loaded
pub record Refusals (t : List ℕ) (words gap : ℕ) (ins : List ℕ) (steps lent : ℕ) : Type 0 where
  pub no_text : reads t ≡ None → RunSays t words gap ins steps lent [] NoText
  pub no_library : reads t ≡ Some [] → RunSays t words gap ins steps lent [] NoStart
  pub no_main : (l : Library) (ls : List Library) → reads t ≡ Some (l ∷ ls) → find_def true l.defs (record { name = main_name; version = any_version }) ≡ None → RunSays t words gap ins steps lent [] NoStart
  pub no_load : (l : Library) (ls : List Library) → reads t ≡ Some (l ∷ ls) → load (l ∷ ls) (RoomOf words gap) l.name true (blank ins).links ≡ None → RunSays t words gap ins steps lent [] NoStart

-- these answers are right
abbrev pub RunRefuses : Type 0
RunRefuses = (t : List ℕ) (words gap : ℕ) (ins : List ℕ) (steps lent : ℕ) → Refusals t words gap ins steps lent
