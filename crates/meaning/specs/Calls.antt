-- Pending calls, and what follows them.
use Rattle.std.specs.Prelude.{ℕ, List, [], ◌∷◌, slice_set}
use Rattle.links.specs.Links.{Place, place_at}
use Rattle.links.specs.Close.{unload, fini_calls}
use Rattle.meaning.specs.State.{Value, num, Sequel, gives, drops, ends, stops, Frame, back, pending, State, Next, goes, ended, wrong, with_links, moved}

-- v in the register r
abbrev pub set_reg : State → ℕ → Value → State
set_reg s r v = moved s (slice_set s.core.regs r v) s.core.here s.core.frames

-- going on at p
abbrev pub at_pc : State → Place → State
at_pc s p = moved s s.core.regs p s.core.frames

-- where a program stands between pending calls: no cell of any library
abbrev pub nowhere : Place
nowhere = place_at 0 8589934592

-- finis of all that is live are pending, the last initialised first, and nothing else; then the program has ended with n
abbrev pub ending : State → ℕ → State
ending s n = moved s s.core.regs nowhere (pending (fini_calls s.links s.links.order) (stops n) ∷ [])

-- what is done when pending calls are through
abbrev pub follows : State → Sequel → List Frame → Next
follows s (gives r v p) fs = goes (moved s (slice_set s.core.regs r v) p fs)
follows s (drops js r p) fs = goes (moved (with_links s (unload js s.links) s.cells) (slice_set s.core.regs r (num 1)) p fs)
follows s (ends n) fs = goes (ending s n)
follows s (stops n) fs = ended n s

-- a call comes back: to its caller, to the next pending call, or to what follows these
abbrev pub returns : State → List Frame → Next
returns s [] = wrong s
returns s (back p ∷ fs) = goes (moved s s.core.regs p fs)
returns s (pending [] f ∷ fs) = follows s f fs
returns s (pending (p ∷ ps) f ∷ fs) = goes (moved s s.core.regs p (pending ps f ∷ fs))

-- these calls are pending, before what was going on
abbrev pub calls_all : State → List Place → Sequel → Next
calls_all s ps f = goes (moved s s.core.regs nowhere (pending ps f ∷ s.core.frames))
