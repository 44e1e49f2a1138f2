-- Where a walk through needs stands, beside the definition of the order of initialisation.
use Rattle.std.specs.Prelude.{◌≡◌, ℕ, ◌+◌, ◌≤◌, List, [], map, length, Some}
use Rattle.std.specs.List.{AllByRecursion}
use Rattle.base.specs.Names.{Name, among}
use Rattle.library.specs.Library.{Library}
use Rattle.libraries.specs.Looks.{number_of}
use Rattle.links.specs.Closure.{depth, init_order}
use Rattle.needs.specs.Numbered.{name_at}
use Rattle.needs.specs.Walks.{Entered, tasks_of, ahead}

-- library k is the first of its name
abbrev pub First : List Library → ℕ → Type 0
First ls k = number_of ls (name_at ls k) ≡ Some k

-- the same names
abbrev pub Alike : List Library → List ℕ → List Name → Type 0
Alike ls xs seen = (x : Name) → among x seen ≡ among x (map (name_at ls) xs)

-- how many tasks are left at most
abbrev pub work : List Library → List Entered → List ℕ → ℕ
work ls es xs = length (tasks_of ls es []) + ahead 0 xs ls

-- where a walk stands: es entered, xs seen, ys left; x is the library that it began with
pub record Stands (ls : List Library) (x : Name) (es : List Entered) (xs ys : List ℕ) : Type 0 where
  pub first : AllByRecursion (First ls) xs
  pub steps : ℕ
  pub seen : List Name
  pub alike : Alike ls xs seen
  pub goes : depth steps ls (tasks_of ls es []) seen (map (name_at ls) ys) ≡ init_order ls x
  pub enough : work ls es xs ≤ steps
