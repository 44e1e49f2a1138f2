-- Lists: whether a number is in one, and what holds of each element.
use Rattle.std.specs.Prelude.{◌≡◌, ℕ, Bool, true, List, [], ◌∷◌, nat_eq}
use Rattle.std.specs.List.{list_any}

-- whether n is in the list
abbrev pub has : ℕ → List ℕ → Bool
has n xs = list_any (nat_eq n) xs

-- the first list backward, then the second
abbrev pub reverse : {A : Type 0} → List A → List A → List A
reverse [] ys = ys
reverse (x ∷ xs) ys = reverse xs (x ∷ ys)

-- every number of xs is in ys
abbrev pub Within : List ℕ → List ℕ → Type 0
Within xs ys = (j : ℕ) → has j xs ≡ true → has j ys ≡ true
