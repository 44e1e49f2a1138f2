-- What the tables of what is loaded stand for.
use Rattle.std.specs.Prelude.{false, List, [], ◌∷◌, ℕ, zero, suc, map, length, ◌==◌, slice_index, slice_index_or, slice_get, Option, Some}
use Rattle.std.specs.Option.{option_map}
use Rattle.std.specs.List.{between}
use Rattle.base.specs.Choices.{opt, on_some, guard}
use Rattle.library.specs.Library.{Library}
use Rattle.links.specs.Links.{Place, Links}
use Rattle.links.specs.Links as links
use Rattle.lent.specs.Tables.{rows_in}
use Rattle.linkage.specs.Rows.{load_at, group_at, binding_at}
use Rattle.linkage.specs.declared.types.Module.{Module}
use Rattle.linkage.specs.declared.types.Group.{Group}
use Rattle.linkage.specs.declared.tables.Tables.{Tables}

-- f of a and the first row, of a + 1 and the next, and so on
abbrev pub numbered : {X : Type 0} → (ℕ → List ℕ → X) → ℕ → List (List ℕ) → List X
numbered f a [] = []
numbered f a (r ∷ rs) = f a r ∷ numbered f (suc a) rs

-- a library without a name and without parts
abbrev pub no_library : Library
no_library = record { name = []; inward = false; needs = []; defs = []; inits = []; finis = []; cells = [] }

-- the library of a number
abbrev pub library_at : List Library → ℕ → Library
library_at ls k = opt (slice_get ls k) no_library (λ l. l)

-- module i, by its row
abbrev pub module_at : Tables → ℕ → List ℕ → Module
module_at t i r = record { load = load_at r; live = (slice_index t.loaded.now (slice_index r 0) == suc i) }

-- module i, if it is still there
abbrev pub live_in : Tables → ℕ → Option Module
live_in t i = on_some (option_map (module_at t i) (slice_get (rows_in 3 t.modules) i)) (λ m. guard m.live (Some m))

-- group i, if it is open
abbrev pub open_in : Tables → ℕ → Option Group
open_in t i = on_some (option_map group_at (slice_get (rows_in 3 t.groups) i)) (λ g. guard g.opened (Some g))

-- the number in a row
abbrev pub number_in : List ℕ → ℕ
number_in r = slice_index r 0

-- what the n cells from word a on are bound to; beyond the rows, to nothing
abbrev pub bindings_from : List (List ℕ) → ℕ → ℕ → List (Option Place)
bindings_from rs a zero = []
bindings_from rs a (suc n) = binding_at (slice_index_or rs a []) ∷ bindings_from rs (suc a) n

-- a module of the links
abbrev pub module_of : List Library → Tables → ℕ → List ℕ → links.Module
module_of ls t i r = record { lib = library_at ls (slice_index r 0); live = (module_at t i r).live; group = slice_index r 1; bound = bindings_from (rows_in 2 t.bindings) (slice_index r 2) (length (library_at ls (slice_index r 0)).cells) }

-- a group of the links
abbrev pub group_of : Tables → Group → links.Group
group_of t g = record { members = map number_in (between g.first g.end (rows_in 1 t.members)); opened = g.opened; global = g.global }

-- the links that the tables stand for
abbrev pub links_of : List Library → Tables → Links
links_of ls t = record { modules = numbered (module_of ls t) 0 (rows_in 3 t.modules); groups = map (λ r. group_of t (group_at r)) (rows_in 3 t.groups); order = map number_in (rows_in 1 t.order); used = t.used }
