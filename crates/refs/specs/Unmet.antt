-- What a module that comes in lacks.
use Rattle.std.specs.List.{position_from}
use Rattle.std.specs.Prelude.{ℕ, not, List, [], Option, slice_get}
use Rattle.base.specs.Choices.{opt}
use Rattle.library.specs.Library.{Cell}
use Rattle.links.specs.Links.{Links}
use Rattle.links.specs.Load.{ref_met}

-- the cells of the module i
abbrev pub cells_at : Links → ℕ → List Cell
cells_at k i = opt (slice_get k.modules i) [] (λ x. x.lib.cells)

-- the number of the first of the cells whose ref must be met for the module me and isn't
abbrev pub first_unmet : Links → ℕ → List Cell → Option ℕ
first_unmet k me cells = position_from (λ c. not (ref_met k me c)) 0 cells
