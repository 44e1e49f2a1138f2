-- Names: runs of bytes.
use Rattle.std.specs.Prelude.{◌≡◌, ℕ, Bool, false, List, [], ◌∷◌, nat_eq}
use Rattle.std.specs.List.{list_any, AllByRecursion}
use lib.Pointwise.{pointwise}

-- the bytes of a name
abbrev pub Name : Type 0
Name = List ℕ

-- whether two names have the same bytes
abbrev pub same : Name → Name → Bool
same = pointwise nat_eq

-- whether the name is in the list
abbrev pub among : Name → List Name → Bool
among w ws = list_any (same w) ws

-- no name twice
abbrev pub Once : List Name → Type 0
Once [] = Unit
Once (x ∷ xs) = (among x xs ≡ false) × Once xs

-- none of xs is in seen
abbrev pub Fresh : List Name → List Name → Type 0
Fresh xs seen = AllByRecursion (λ x. among x seen ≡ false) xs
