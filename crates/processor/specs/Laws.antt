-- What holds of every step, of every instruction word, and of words laid down.
use Rattle.std.specs.Prelude.{◌≡◌, ℕ, ◌+◌, ◌<◌, ◌≤◌, List, [], ◌∷◌, length, Some, slice_get}
use Rattle.processor.specs.Cpu.{Processor, Parts, step, does, parts, wide}
use Rattle.processor.specs.Operations.{act, decoded, encoded, fields}
use Rattle.processor.specs.declared.words.Operation.{Operation}
use Rattle.processor.specs.Laid.{laid}

-- the second list begins with the first
pub data Front : List ℕ → List ℕ → Type 0 where
  none_yet : {s : List ℕ} → Front [] s
  and_so : {x : ℕ} {s t : List ℕ} → Front s t → Front (x ∷ s) (x ∷ t)

-- what was shown stays shown
abbrev pub ShowsMore : Type 0
ShowsMore = (c : Processor) → Front c.outs (step c).cpu.outs

-- a step changes no memory's size
abbrev pub KeepsSize : Type 0
KeepsSize = (c : Processor) → length (step c).cpu.words ≡ length c.words

-- a word does what the instruction does that it is decoded to
abbrev pub Decodes : Type 0
Decodes = (c : Processor) (w : ℕ) → does c (parts w) ≡ act c (decoded w)

-- each field has room in a word
pub record Fits (p : Parts) : Type 0 where
  pub o : p.o < 256
  pub r : p.r < 256
  pub a : p.a < 256
  pub b : p.b < 256
  pub k : p.k < wide

-- an instruction's word is decoded to it, and from the word its fields are read
pub record Encodes : Type 0 where
  pub fields_back : (i : Operation) → Fits (fields i) → parts (encoded i) ≡ fields i
  pub operation_back : (i : Operation) → Fits (fields i) → decoded (encoded i) ≡ Some i

-- words laid down lie from their address on, and all others stay, as many as there were
abbrev pub Lies : Type 0
Lies = (ws : List ℕ) (a : ℕ) (xs : List ℕ) → a + length xs ≤ length ws → (length (laid ws a xs) ≡ length ws) × ((j : ℕ) → j < length xs → slice_get (laid ws a xs) (a + j) ≡ slice_get xs j) × ((j : ℕ) → j < a → slice_get (laid ws a xs) j ≡ slice_get ws j) × ((j : ℕ) → a + length xs ≤ j → slice_get (laid ws a xs) j ≡ slice_get ws j)
