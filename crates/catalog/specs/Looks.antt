-- Parts of the libraries, by the rows that they stand in.
use Rattle.std.specs.Prelude.{ℕ, ◌+◌, List, slice_index, Option, slice_get}
use Rattle.std.specs.List.{between}
use Rattle.base.specs.Choices.{on_some}

-- part j of library i, where the words w and w + 1 of the libraries' rows have the bounds of its parts in xs
abbrev pub part_in : {X : Type 0} → List (List ℕ) → ℕ → ℕ → List X → ℕ → Option X
part_in rs i w xs j = on_some (slice_get rs i) (λ r. slice_get (between (slice_index r w) (slice_index r (w + 1)) xs) j)
