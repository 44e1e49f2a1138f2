-- What a library reaches by its needs; what its closure and its order of initialisation have.
use Rattle.std.specs.Prelude.{◌≡◌, true, ◌⊎◌, List, [], ◌∷◌, None, Some, cond}
use Rattle.base.specs.Names.{Name, same, among, Once}
use Rattle.library.specs.Library.{Library, find_library}
use Rattle.links.specs.Closure.{closure, init_order}
use Rattle.links.specs.Laws.{Found}

-- the library y has a line that it needs z
abbrev pub Needs : List Library → Name → Name → Type 0
Needs ls y z = (l : Library) × (find_library ls y ≡ Some l) × (among z l.needs ≡ true)

-- from x, by what it needs, what that needs, and so on
pub data Reaches (ls : List Library) (x : Name) : Name → Type 0 where
  itself : Reaches ls x x
  further : (y z : Name) → Reaches ls x y → Needs ls y z → Reaches ls x z

-- ys are the libraries that x reaches: all of them, no other, each once, each of the text
pub record ClosedFrom (ls : List Library) (x : Name) (ys : List Name) : Type 0 where
  pub once : Once ys
  pub found : Found ls ys
  pub each : (y : Name) → Reaches ls x y → among y ys ≡ true
  pub only : (y : Name) → among y ys ≡ true → Reaches ls x y

-- a closure has what the library reaches; there is none only where it reaches one that the text hasn't
pub record ClosureReaches : Type 0 where
  pub has : (ls : List Library) (x : Name) (ys : List Name) → closure ls x ≡ Some ys → ClosedFrom ls x ys
  pub misses : (ls : List Library) (x : Name) → closure ls x ≡ None → (y : Name) × Reaches ls x y × (find_library ls y ≡ None)

-- the names that stand before y
abbrev pub before : Name → List Name → List Name
before y [] = []
before y (x ∷ xs) = cond (same y x) [] (x ∷ before y xs)

-- the libraries of ys, each once; what one of them needs stands before it, or needs it in turn: a ring
pub record InOrder (ls : List Library) (ys zs : List Name) : Type 0 where
  pub once : Once zs
  pub same : (y : Name) → among y zs ≡ among y ys
  pub needs_first : (y z : Name) → among y zs ≡ true → Needs ls y z → (among z (before y zs) ≡ true) ⊎ Reaches ls z y

-- the order of initialisation is such an order of the closure
abbrev pub OrderRight : Type 0
OrderRight = (ls : List Library) (x : Name) (ys : List Name) → closure ls x ≡ Some ys → InOrder ls ys (init_order ls x)
