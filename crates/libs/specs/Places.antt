-- Files that are read as one text, and which line of which file a line of that text is.
use Rattle.std.specs.Prelude.{◌≡◌, ℕ, suc, ◌+◌, ◌-◌, List, [], ◌∷◌, ◌++◌, map, length, Some, None, Option, nat_le, cond, slice_get}
use Rattle.base.specs.Choices.{on_some}
use Rattle.base.specs.Names.{Name}
use Rattle.text.specs.Words.{lines_of}
use Rattle.libs.specs.declared.sources.Place.{Place}

-- files one after the other, with byte 10 behind each
abbrev pub joined : List Name → List ℕ
joined [] = []
joined (t ∷ ts) = t ++ (10 ∷ joined ts)

-- how many lines each file has
abbrev pub line_counts : List Name → List ℕ
line_counts ts = map (λ t. length (lines_of t)) ts

-- line n, counted from 1, of files that have so many lines, numbered from f on
abbrev pub place : ℕ → List ℕ → ℕ → Option Place
place f [] n = None
place f (c ∷ cs) n = cond (nat_le n c) (Some (record { file = f; line = n })) (place (f + 1) cs (n - c))

-- a line of the files as one text is the line that stands at its place
abbrev pub SameLine : Type 0
SameLine = (ts : List Name) (n : ℕ) (p : Place) → place 0 (line_counts ts) (suc n) ≡ Some p → slice_get (lines_of (joined ts)) n ≡ on_some (slice_get ts p.file) (λ t. slice_get (lines_of t) (p.line - 1))
