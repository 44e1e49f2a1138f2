-- A module put behind the others.
use Rattle.std.specs.Prelude.{◌≡◌, ◌≢◌, ℕ, true, List, length, Some}
use Rattle.library.specs.Library.{Library}
use Rattle.lent.specs.Tables.{rows_in}
use Rattle.links.specs.Links as links
use Rattle.linkage.specs.Tables.{library_at, bindings_from, live_in}
use Rattle.linkage.specs.declared.types.Load.{Load}
use Rattle.linkage.specs.declared.types.Module.{Module}
use Rattle.linkage.specs.declared.tables.Tables.{Tables}

-- no module of library k is still there
abbrev pub IsAbsent : Tables → ℕ → Type 0
IsAbsent t k = (j : ℕ) (m : Module) → live_in t j ≡ Some m → m.load.library.0 ≢ k

-- the module of a load, there, with the bindings that the tables have for its words
abbrev pub new_module : List Library → Tables → Load → links.Module
new_module ls t load = record { lib = library_at ls load.library.0; live = true; group = load.group; bound = bindings_from (rows_in 2 t.bindings) load.base (length (library_at ls load.library.0).cells) }
