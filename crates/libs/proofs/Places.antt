-- How many lines a text has, and a line of a list of files.
use Rattle.std.specs.Prelude.{cond}
use Rattle.std.proofs.Common.{◌≡◌, ℕ, ◌+◌, ◌-◌, count_by, ◌<◌, ◌≤◌, true, false, eqb, List, [], ◌∷◌, ◌++◌, length, get_or, drop, Some, None, Option, sym, refl, ap, ◌∙◌, arith}
use Rattle.std.proofs.lemmas.List.Recursion.{is_count_by}
use Rattle.std.proofs.lemmas.List.{at_drop_more, at_drop_all}
use Rattle.std.proofs.lemmas.Bool.{le-leb, lt-leb}
use Rattle.text.specs.Words.{cut}
use Rattle.libs.specs.Places.{place}
use Rattle.libs.specs.declared.sources.Place.{Place}

abbrev ends : ℕ → List ℕ → ℕ
ends c [] = 0
ends c (x ∷ xs) = cond (eqb x c) (1 + ends c xs) (ends c xs)

ends_cut : (c : ℕ) (v t : List ℕ) → ends c t + 1 ≡ length (cut c v t)
ends_cut c v [] = omega arith
ends_cut c v (x ∷ xs) = elim (eqb x c) as (λ b. cond b (1 + ends c xs) (ends c xs) + 1 ≡ length (cond b (v ∷ cut c [] xs) (cut c (v ++ (x ∷ [])) xs))) [
  | true ↦ omega (arith, ends_cut c [] xs)
  | false ↦ ends_cut c (v ++ (x ∷ [])) xs
]

-- one line more than line ends
pub count_lines : (c : ℕ) (t : List ℕ) → count_by (λ b. eqb b c) t + 1 ≡ length (cut c [] t)
count_lines c t = ap (λ n. n + 1) (sym (is_count_by (ends c) (λ b. eqb b c) refl (λ x xs. refl) t)) ∙ ends_cut c [] t

place_at : (cs : List ℕ) (f n : ℕ) → f < length cs → place f (drop f cs) n ≡ place f (get_or cs f 0 ∷ drop (f + 1) cs) n
place_at cs f n h = at_drop_more (λ s. place f s n) cs f 0 h

-- the line is in file f
pub placed : (cs : List ℕ) (f n : ℕ) (p : Option Place) → place f (drop f cs) n ≡ p → f < length cs → n ≤ get_or cs f 0 → Some (record { file = f; line = n }) ≡ p
placed cs f n p inv h e = sym (place_at cs f n h ∙ ap (λ b. cond b (Some (record { file = f; line = n })) (place (f + 1) (drop (f + 1) cs) (n - get_or cs f 0))) (le-leb n (get_or cs f 0) e)) ∙ inv

-- the line is in a later file
pub place_later : (cs : List ℕ) (f n : ℕ) (p : Option Place) → place f (drop f cs) n ≡ p → f < length cs → get_or cs f 0 < n → place (f + 1) (drop (f + 1) cs) (n - get_or cs f 0) ≡ p
place_later cs f n p inv h e = sym (place_at cs f n h ∙ ap (λ b. cond b (Some (record { file = f; line = n })) (place (f + 1) (drop (f + 1) cs) (n - get_or cs f 0))) (lt-leb n (get_or cs f 0) e)) ∙ inv

-- the line is in no file
pub place_none : (cs : List ℕ) (f n : ℕ) (p : Option Place) → place f (drop f cs) n ≡ p → length cs ≤ f → None ≡ p
place_none cs f n p inv h = sym (at_drop_all (λ s. place f s n) cs f h) ∙ inv
