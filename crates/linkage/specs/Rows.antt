-- What rows of words stand for, by themselves.
use Rattle.std.specs.Prelude.{List, ℕ, zero, suc, ◌%◌, ◌==◌, nat_lt, slice_index, None, Option, Some}
use Rattle.links.specs.Links.{Place, place_at}
use Rattle.linkage.specs.declared.types.Load.{Load}
use Rattle.linkage.specs.declared.types.Group.{Group}

-- a library as it was loaded
abbrev pub load_at : List ℕ → Load
load_at r = record { library = record { 0 = slice_index r 0 }; group = slice_index r 1; base = slice_index r 2 }

-- a group; its last word has 1 where it is open, and 2 more where it is global
abbrev pub group_at : List ℕ → Group
group_at r = record { first = slice_index r 0; end = slice_index r 1; opened = (slice_index r 2 % 2 == 1); global = nat_lt 1 (slice_index r 2) }

-- what a cell is bound to, by the two words of its binding
abbrev pub bound_by : ℕ → ℕ → Option Place
bound_by zero k = None
bound_by (suc i) k = Some (place_at i k)

-- what a cell is bound to
abbrev pub binding_at : List ℕ → Option Place
binding_at r = bound_by (slice_index r 0) (slice_index r 1)
