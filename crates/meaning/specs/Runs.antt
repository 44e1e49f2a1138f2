-- A program as it begins, and its steps.
use Rattle.std.specs.Prelude.{ℕ, zero, suc, true, List, [], ◌∷◌, ◌++◌, replicate, None, Option, Some}
use Rattle.base.specs.Choices.{on_some}
use Rattle.library.specs.Library.{Library, any_version, main_name}
use Rattle.links.specs.Links.{Place, place_at, Room}
use Rattle.links.specs.Load.{load}
use Rattle.links.specs.Symbols.{find_def}
use Rattle.meaning.specs.State.{num, ends, pending, State, Next, goes, moved, loaded}
use Rattle.meaning.specs.Calls.{nowhere}
use Rattle.meaning.specs.Steps.{step, then}

-- nothing is loaded; the first word of all is taken
abbrev pub blank : List ℕ → State
blank ins = record { links = record { modules = []; groups = []; order = []; used = 1 }; cells = []; core = record { regs = replicate 8 (num 0); here = nowhere; frames = []; pushed = [] }; ins = ins; outs = [] }

-- these calls are pending; when they are through, the program ends with 0
abbrev pub started : State → List Place → State
started s ps = moved s s.core.regs nowhere (pending ps (ends 0) ∷ [])

-- the program as it begins: group 0 is loaded, its inits and main are pending
abbrev pub begins : List Library → Room → List ℕ → Option State
begins [] m ins = None
begins (l ∷ ls) m ins = on_some (find_def true l.defs (record { name = main_name; version = any_version })) (λ k. on_some (load (l ∷ ls) m l.name true (blank ins).links) (λ x. Some (started (loaded (blank ins) x) (x.calls ++ (place_at 0 k ∷ [])))))

-- n steps on
abbrev pub after : List Library → Room → State → ℕ → Next
after ls m s zero = goes s
after ls m s (suc n) = then (after ls m s n) (step ls m)
