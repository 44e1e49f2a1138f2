-- What a reader has still to read.
use Rattle.std.specs.Prelude.{◌≡◌, ℕ, suc, ◌+◌, ◌≤◌, List, [], ◌∷◌, length, Option, MatchOption}
use Rattle.std.specs.List.{between}
use Rattle.base.specs.Choices.{opt}
use Rattle.base.specs.Names.{Name}
use Rattle.text.specs.Words.{cut, full}
use Rattle.text.specs.declared.reader.Span.{Span}
use Rattle.text.specs.declared.reader.Reader.{Reader}

-- the bytes of a part of the text
abbrev pub bytes : List ℕ → Span → Name
bytes t s = between s.start s.end t

-- a part that lies in the text
abbrev pub Within : List ℕ → Span → Type 0
Within t s = (s.start ≤ s.end) × (s.end ≤ length t)

-- the pieces that are left, cut at bytes c; none where nothing is left
unfoldable pub pieces : ℕ → Reader → List Name
pieces c r = opt r.rest [] (λ s. cut c [] (bytes r.text.now s))

-- the words that are left
unfoldable pub words : Reader → List Name
words r = full (pieces 32 r)

-- how many bytes are left, and one; 0 where nothing is left
unfoldable pub size : Reader → ℕ
size r = opt r.rest 0 (λ s. suc (length (bytes r.text.now s)))

-- a call that gave the next line, if there was one
abbrev pub NextLine : Reader → Option Span → Reader → Type 0
NextLine s r t = (t.text.now ≡ s.text.now) × MatchOption r ((pieces 10 s ≡ []) × (t ≡ s)) (λ x. Within s.text.now x × (pieces 10 s ≡ bytes s.text.now x ∷ pieces 10 t) × (size t + suc (length (bytes s.text.now x)) ≤ size s))
