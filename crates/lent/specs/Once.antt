-- Numbers that come once each, and a mark at each that came.
use Rattle.std.specs.Prelude.{◌≡◌, ℕ, ◌+◌, ◌<◌, Bool, not, List, [], ◌∷◌, ◌++◌, length, ◌==◌, cond, slice_index}
use Rattle.base.specs.Lists.{has}

-- whether a word is a mark
abbrev pub is_mark : ℕ → Bool
is_mark x = not (x == 0)

-- how many marks there are
abbrev pub count_marks : List ℕ → ℕ
count_marks [] = 0
count_marks (x ∷ xs) = cond (is_mark x) 1 0 + count_marks xs

-- the marks are at the numbers of xs
abbrev pub Marked : List ℕ → List ℕ → Type 0
Marked ms xs = (k : ℕ) → k < length ms → is_mark (slice_index ms k) ≡ has k xs

-- each number is below n
abbrev pub Below : List ℕ → ℕ → Type 0
Below xs n = (k : ℕ) → k < length xs → slice_index xs k < n

-- j behind the numbers, unless it is one of them
abbrev pub joined : ℕ → List ℕ → List ℕ
joined j xs = cond (has j xs) xs (xs ++ (j ∷ []))
