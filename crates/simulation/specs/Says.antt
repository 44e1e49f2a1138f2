-- What a run promises.
use Rattle.std.specs.Prelude.{◌≡◌, ℕ, ◌+◌, ◌*◌, ◌<◌, ◌≤◌, ◌⊎◌, List, [], length, ◌≢◌, None, Some}
use Rattle.library.specs.Library.{Library}
use Rattle.library.specs.Text.{reads}
use Rattle.links.specs.Links.{Room}
use Rattle.meaning.specs.State.{State, Next, goes, ended, lost, wrong}
use Rattle.meaning.specs.Runs.{begins, after}
use Rattle.processor.specs.Laws.{Front}
use Rattle.simulation.specs.declared.Outcome.{Outcome}
use Rattle.simulation.specs.declared.Outcome.TheVariants.{NoText, NoStart, Ended, Lost, Going, Few}

-- at some step of f the program has no meaning: from there on anything may be shown
abbrev pub Fell : (ℕ → Next) → List ℕ → Type 0
Fell f os = (n : ℕ) × (s : State) × (f n ≡ wrong s) × Front s.outs os

-- w words, and a gap of g before each module
abbrev pub RoomOf : ℕ → ℕ → Room
RoomOf w g = record { words = w; gap = g }

-- of k steps that were given, from the count a to the count b: never more, and all where the answer is going
abbrev pub Made : ℕ → ℕ → ℕ → Outcome → Type 0
Made k a b NoText = b ≤ a + k
Made k a b NoStart = b ≤ a + k
Made k a b (Ended n) = b ≤ a + k
Made k a b Lost = b ≤ a + k
Made k a b Going = b ≡ a + k
Made k a b Few = b ≤ a + k

-- the text has the libraries ls, and with w words, gaps of g and these numbers to read the program begins in the state s
abbrev pub Starts : List ℕ → ℕ → ℕ → List ℕ → List Library → State → Type 0
Starts t w g ins ls s = (reads t ≡ Some ls) × (begins ls (RoomOf w g) ins ≡ Some s)

-- what an answer says, where os was shown in at most so many steps of the processor, with l words lent
abbrev pub RunSays : List ℕ → ℕ → ℕ → List ℕ → ℕ → ℕ → List ℕ → Outcome → Type 0
RunSays t w g ins steps l os NoText = (reads t ≡ None) × (os ≡ [])
RunSays t w g ins steps l os NoStart = (ls : List Library) × (reads t ≡ Some ls) × (begins ls (RoomOf w g) ins ≡ None) × (os ≡ [])
RunSays t w g ins steps l os (Ended v) = (ls : List Library) × (s : State) × Starts t w g ins ls s × (((n : ℕ) × (z : State) × (after ls (RoomOf w g) s n ≡ ended v z) × (z.outs ≡ os)) ⊎ Fell (after ls (RoomOf w g) s) os)
RunSays t w g ins steps l os Lost = (ls : List Library) × (s : State) × Starts t w g ins ls s × (((n : ℕ) × (z : State) × (after ls (RoomOf w g) s n ≡ lost z) × (z.outs ≡ os)) ⊎ Fell (after ls (RoomOf w g) s) os)
RunSays t w g ins steps l os Going = (ls : List Library) × (s : State) × Starts t w g ins ls s × (((n : ℕ) × (z : State) × (steps ≤ 2 + (n + n)) × (after ls (RoomOf w g) s n ≡ goes z) × (z.outs ≡ os)) ⊎ Fell (after ls (RoomOf w g) s) os)
RunSays t w g ins steps l os Few = (l < 65536 + (64 * length t + 32 * w)) × (os ≡ [])

-- where l words lent are enough for the text t and w words, the answer isn't that they were few
abbrev pub Enough : List ℕ → ℕ → ℕ → Outcome → Type 0
Enough t w l o = 65536 + (64 * length t + 32 * w) ≤ l → o ≢ Few
