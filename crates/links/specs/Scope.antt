-- Scopes, and what a symbol means to a module.
use Rattle.std.specs.Prelude.{ℕ, ◌&&◌, List, [], ◌∷◌, ◌++◌, ◌==◌, None, Option, Some, cond, slice_get}
use Rattle.base.specs.Choices.{opt, on_some, guard}
use Rattle.library.specs.Library.{Symbol}
use Rattle.links.specs.Symbols.{find_def}
use Rattle.links.specs.Links.{Place, place_at, Module, Group, Links}

-- a module that is still there
abbrev pub live_at : List Module → ℕ → Option Module
live_at ms i = on_some (slice_get ms i) (λ x. guard x.live (Some x))

-- members of the groups that are for every module, in the order of opening
abbrev pub global_members : List Group → List ℕ
global_members [] = []
global_members (g ∷ gs) = cond (g.opened && g.global) g.members [] ++ global_members gs

-- the members of the group n
abbrev pub members_of : List Group → ℕ → List ℕ
members_of gs n = opt (slice_get gs n) [] (λ g. g.members)

-- the modules that a module looks through, in order
abbrev pub scope : Links → ℕ → List ℕ
scope k i = opt (slice_get k.modules i) [] (λ x. cond x.lib.inward (i ∷ []) [] ++ (global_members k.groups ++ members_of k.groups x.group))

-- the first of js that defines the symbol, to the eyes of me
abbrev pub lookup : List Module → ℕ → Symbol → List ℕ → Option Place
lookup ms me s [] = None
lookup ms me s (j ∷ js) = opt (on_some (live_at ms j) (λ x. on_some (find_def (me == j) x.lib.defs s) (λ k. Some (place_at j k)))) (lookup ms me s js) Some

-- what a symbol means to the module me
abbrev pub resolve : Links → ℕ → Symbol → Option Place
resolve k me s = lookup k.modules me s (scope k me)
