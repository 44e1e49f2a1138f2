-- Lines end at byte 10, words at byte 32; numbers are decimal.
use Rattle.std.specs.Prelude.{ℕ, ◌+◌, ◌-◌, ◌*◌, ◌&&◌, List, [], ◌∷◌, ◌++◌, ◌==◌, nat_le, nat_lt, None, Option, Some, cond}
use Rattle.base.specs.Choices.{on_some, guard}
use Rattle.base.specs.Names.{Name}

-- the pieces of a text between bytes c; w: what was read of the first piece already
abbrev pub cut : ℕ → Name → List ℕ → List Name
cut c w [] = w ∷ []
cut c w (x ∷ xs) = cond (x == c) (w ∷ cut c [] xs) (cut c (w ++ (x ∷ [])) xs)

-- the pieces that aren't empty
abbrev pub full : List Name → List Name
full [] = []
full ([] ∷ ws) = full ws
full ((x ∷ xs) ∷ ws) = (x ∷ xs) ∷ full ws

-- the lines of a text
abbrev pub lines_of : List ℕ → List Name
lines_of t = cut 10 [] t

-- the words of a line
abbrev pub words_of : Name → List Name
words_of l = full (cut 32 [] l)

-- the number that digits write behind those of n
abbrev pub digits : ℕ → Name → Option ℕ
digits n [] = Some n
digits n (c ∷ cs) = cond (nat_le 48 c && nat_le c 57) (digits (n * 10 + (c - 48)) cs) None

-- the number that a word writes, where it is below m
abbrev pub below : ℕ → Name → Option ℕ
below m [] = None
below m (c ∷ cs) = on_some (digits 0 (c ∷ cs)) (λ n. guard (nat_lt n m) (Some n))
