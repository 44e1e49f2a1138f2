-- Parts of the libraries, one by one.
use Rattle.std.specs.Option.{option_map}
use Rattle.std.specs.Prelude.{◌≡◌, true, false, ℕ, suc, List, [], ◌∷◌, length, None, Option, Some, cond, slice_get}
use Rattle.base.specs.Choices.{on_some, opt}
use Rattle.base.specs.Names.{Name, same}
use Rattle.library.specs.Library.{Library}
use Rattle.library.specs.declared.types.LibraryId.{LibraryId}
use Rattle.libraries.specs.declared.sizes.Sizes.{Sizes}

-- the number of a library
abbrev pub library_no : LibraryId → ℕ
library_no k = k.0

-- the number of the first library of a name
abbrev pub number_of : List Library → Name → Option ℕ
number_of [] x = None
number_of (l ∷ ls) x = cond (same l.name x) (Some 0) (option_map suc (number_of ls x))

-- what f says of library i
abbrev pub field_at : {X : Type 0} → List Library → ℕ → (Library → X) → Option X
field_at ls i f = option_map f (slice_get ls i)

-- part j of library i, of the parts that f has
abbrev pub part_at : {X : Type 0} → List Library → ℕ → (Library → List X) → ℕ → Option X
part_at ls i f j = on_some (slice_get ls i) (λ l. slice_get (f l) j)

-- how many parts a library has
abbrev pub sizes_of : Library → Sizes
sizes_of l = record { needs = length l.needs; definitions = length l.defs; initializers = length l.inits; finalizers = length l.finis; cells = length l.cells }

-- library k has the name x
abbrev pub HasName : List Library → ℕ → Name → Type 0
HasName ls k x = opt (slice_get ls k) false (λ l. same l.name x) ≡ true
