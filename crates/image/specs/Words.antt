-- The words that a library's cells begin with.
use Rattle.std.specs.Prelude.{List, [], ◌∷◌, ℕ, suc, ◌+◌, ◌%◌, Option}
use Rattle.base.specs.Choices.{opt}
use Rattle.library.specs.Library.{Cell, number, ref, at, slot, named, instruction}
use Rattle.processor.specs.Cpu.{all}
use Rattle.image.specs.Encode.{encode}

-- the word of cell j of a library that lies from base on; the cell has the number counted among all cells of the text, and is settled to the definition at an address, or to none
abbrev pub first_word : Option ℕ → ℕ → ℕ → ℕ → Cell → ℕ
first_word definition base counted j (number n) = n
first_word definition base counted j (ref s n must) = opt definition 0 (λ a. (a + n) % all)
first_word definition base counted j (at k) = (base + k) % all
first_word definition base counted j (slot s) = 0
first_word definition base counted j (named x) = counted
first_word definition base counted j (instruction o) = encode o j

-- the words of the cells from cell j on, by what each is settled to; the library's first cell has the number first
abbrev pub first_words : (Cell → Option ℕ) → ℕ → ℕ → ℕ → List Cell → List ℕ
first_words settled base first j [] = []
first_words settled base first j (c ∷ cs) = first_word (settled c) base (first + j) j c ∷ first_words settled base first (suc j) cs
