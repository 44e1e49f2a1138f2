-- Words laid down one after the other.
use Rattle.std.proofs.lemmas.Option.{none-some}
use Rattle.std.specs.Prelude.{Some, slice_get, slice_set}
use Rattle.std.proofs.Common.{◌≡◌, ℕ, zero, suc, ◌+◌, ◌<◌, ◌≤◌, List, [], ◌∷◌, length, get_or, drop, sym, refl, ap, ◌∙◌, arith}
use Rattle.base.proofs.Lists.{slice_get_is, slice_get-set_other, slice_get-set_same}
use Rattle.std.proofs.lemmas.List.{drop_more, drop_all, length-set}
use Rattle.processor.specs.Cpu.{Processor, poked}
use Rattle.processor.specs.Laid.{laid, with_words}
use Rattle.processor.specs.Laws.{Lies}

-- the processor d is c with i words of the image laid down
pub record Laying (c d : Processor) (base i : ℕ) (image : List ℕ) : Type 0 where
  pub only_words : d ≡ with_words c d.words
  pub long : length d.words ≡ length c.words
  pub rest : laid d.words (base + i) (drop i image) ≡ laid c.words base image

pub laying_more : (c d : Processor) (base i : ℕ) (image : List ℕ) (x : ℕ) → i < length image → x ≡ get_or image i 0 → Laying c d base i image → Laying c (poked d (base + i) x) base (i + 1) image
laying_more c d base i image x h e l = record { only_words = ap (λ z. poked z (base + i) x) l.only_words; long = length-set d.words (base + i) x ∙ l.long; rest = let p : drop i image ≡ x ∷ drop (i + 1) image = drop_more image i 0 h ∙ ap (λ z. z ∷ drop (i + 1) image) (sym e) in let q : base + (i + 1) ≡ suc (base + i) = omega arith in rw q (ap (λ z. laid d.words (base + i) z) (sym p) ∙ l.rest) }

pub laying_all : (c d : Processor) (base i : ℕ) (image : List ℕ) → length image ≤ i → Laying c d base i image → d ≡ with_words c (laid c.words base image)
laying_all c d base i image h l = let p : drop i image ≡ [] = drop_all i image h in l.only_words ∙ ap (with_words c) (sym (ap (λ z. laid d.words (base + i) z) p) ∙ l.rest)

-- where they lie
pub laid_length : (ws : List ℕ) (a : ℕ) (xs : List ℕ) → length (laid ws a xs) ≡ length ws
laid_length ws a [] = refl
laid_length ws a (x ∷ xs) = laid_length (slice_set ws a x) (suc a) xs ∙ length-set ws a x

pub laid_below : (ws : List ℕ) (a : ℕ) (xs : List ℕ) (b : ℕ) → b < a → slice_get (laid ws a xs) b ≡ slice_get ws b
laid_below ws a [] b h = refl
laid_below ws a (x ∷ xs) b h = laid_below (slice_set ws a x) (suc a) xs b (omega arith) ∙ slice_get-set_other ws a b x (λ e. omega arith)

pub laid_above : (ws : List ℕ) (a : ℕ) (xs : List ℕ) (b : ℕ) → a + length xs ≤ b → slice_get (laid ws a xs) b ≡ slice_get ws b
laid_above ws a [] b h = refl
laid_above ws a (x ∷ xs) b h = laid_above (slice_set ws a x) (suc a) xs b (omega arith) ∙ slice_get-set_other ws a b x (λ e. omega arith)

pub laid_at : (ws : List ℕ) (a : ℕ) (xs : List ℕ) (j : ℕ) (x : ℕ) → a + length xs ≤ length ws → slice_get xs j ≡ Some x → slice_get (laid ws a xs) (a + j) ≡ Some x
laid_at ws a [] j x h e = absurd (none-some _ e)
laid_at ws a (y ∷ xs) zero x h e = let q : a + 0 ≡ a = omega arith in rw q (laid_below (slice_set ws a y) (suc a) xs a (omega arith) ∙ slice_get-set_same ws a y (omega arith) ∙ e)
laid_at ws a (y ∷ xs) (suc j) x h e = let q : a + suc j ≡ suc a + j = omega arith in rw q (laid_at (slice_set ws a y) (suc a) xs j x (omega (arith, length-set ws a y)) e)

pub lies : Lies
lies ws a xs h = (laid_length ws a xs, (λ j l. let p = slice_get_is xs j l in laid_at ws a xs j p.0 h p.1 ∙ sym p.1), (λ j l. laid_below ws a xs j l), (λ j l. laid_above ws a xs j l))
