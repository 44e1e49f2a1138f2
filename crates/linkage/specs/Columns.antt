-- What columns of words say of modules and groups; a word that isn't there is 0.
use Rattle.std.specs.Prelude.{ℕ, suc, ◌%◌, ◌==◌, nat_lt, slice_index}
use Rattle.linkage.specs.declared.types.Module.{Module}
use Rattle.linkage.specs.declared.types.Group.{Group}
use Rattle.linkage.specs.declared.columns.Columns.{Columns}

-- the library of module i
abbrev pub library_in : Columns → ℕ → ℕ
library_in t i = slice_index t.modules.library.now i

-- module i
abbrev pub module_row : Columns → ℕ → Module
module_row t i = record { load = record { library = record { 0 = library_in t i }; group = slice_index t.modules.group.now i; base = slice_index t.modules.base.now i }; live = (slice_index t.loaded.now (library_in t i) == suc i) }

-- group i
abbrev pub group_row : Columns → ℕ → Group
group_row t i = record { first = slice_index t.groups.first.now i; end = slice_index t.groups.end.now i; opened = (slice_index t.groups.state.now i % 2 == 1); global = nat_lt 1 (slice_index t.groups.state.now i) }
