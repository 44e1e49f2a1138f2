-- Rows of a fixed width in a list of words.
use Rattle.std.specs.Prelude.{ℕ, ◌+◌, ◌*◌, List, map, slice_index}
use Rattle.lent.specs.declared.table.Table.{Table}
use Rattle.std.specs.List.{range_with_len, between}

-- the row i of rows of w words
abbrev pub row_at : ℕ → List ℕ → ℕ → List ℕ
row_at w ws i = between (w * i) (w * i + w) ws

-- the first n rows of w words
unfoldable pub rows_of : ℕ → List ℕ → ℕ → List (List ℕ)
rows_of w ws n = map (row_at w ws) (range_with_len 0 n)

-- the rows of a table
abbrev pub rows_in : (w : ℕ) → Table w → List (List ℕ)
rows_in w t = rows_of w t.words.now t.len

-- the numbers in the rows of one word
abbrev pub column : Table 1 → List ℕ
column t = map (λ r. slice_index r 0) (rows_in 1 t)
