-- A line of files that are read as one text is a line of one of them.
use Rattle.std.specs.Prelude.{cond, slice_get}
use Rattle.std.proofs.Common.{◌≡◌, ℕ, suc, ◌+◌, ◌-◌, ◌<◌, ◌≤◌, Bool, true, false, eqb, leb, List, [], ◌∷◌, ◌++◌, length, Some, sym, refl, ap, ◌∙◌, subst, arith}
use Rattle.std.proofs.lemmas.Bool.{leb-true, leb-false}
use Rattle.base.specs.Choices.{on_some}
use Rattle.base.specs.Names.{Name}
use Rattle.base.proofs.Lists.{slice_get_is, slice_get_left, slice_get_right}
use Rattle.text.specs.Words.{cut, lines_of}
use Rattle.libs.specs.Places.{joined, line_counts, place, SameLine}
use Rattle.libs.specs.declared.sources.Place.{Place}

cut_join : (w t r : List ℕ) → cut 10 w (t ++ (10 ∷ r)) ≡ cut 10 w t ++ cut 10 [] r
cut_join w [] r = refl
cut_join w (x ∷ xs) r = elim (eqb x 10) as (λ b. cond b (w ∷ cut 10 [] (xs ++ (10 ∷ r))) (cut 10 (w ++ (x ∷ [])) (xs ++ (10 ∷ r))) ≡ cond b (w ∷ cut 10 [] xs) (cut 10 (w ++ (x ∷ [])) xs) ++ cut 10 [] r) [
  | true ↦ ap (λ v. w ∷ v) (cut_join [] xs r)
  | false ↦ cut_join (w ++ (x ∷ [])) xs r
]

-- line n of the text is the one at p, where files are numbered from f on
Stands : List Name → ℕ → ℕ → Place → Type 0
Stands ts f n p = (f ≤ p.file) × (slice_get (lines_of (joined ts)) n ≡ on_some (slice_get ts (p.file - f)) (λ t. slice_get (lines_of t) (p.line - 1)))

-- in the first file
first : (t : Name) (ts : List Name) (f n : ℕ) → n < length (lines_of t) → Stands (t ∷ ts) f n (record { file = f; line = suc n })
unfolding Stands
first t ts f n h =
    let here = slice_get_is (lines_of t) n h in
    let both = ap (λ ls. slice_get ls n) (cut_join [] t (joined ts)) ∙ slice_get_left (lines_of t) (lines_of (joined ts)) n here.0 here.1 ∙ sym here.1 in
    let zero_th : f - f ≡ 0 = omega arith in
    let line : suc n - 1 ≡ n = omega arith in
    (omega arith, both ∙ sym (ap (λ k. on_some (slice_get (t ∷ ts) k) (λ u. slice_get (lines_of u) (suc n - 1))) zero_th ∙ ap (λ k. slice_get (lines_of t) k) line))

-- in a later file
later : (t : Name) (ts : List Name) (f n : ℕ) (p : Place) → length (lines_of t) ≤ n → Stands ts (f + 1) (n - length (lines_of t)) p → Stands (t ∷ ts) f n p
unfolding Stands
later t ts f n p h s =
    let far : f + 1 ≤ p.file = s.0 in
    let sum : n ≡ length (lines_of t) + (n - length (lines_of t)) = omega arith in
    let next : p.file - f ≡ suc (p.file - (f + 1)) = omega arith in
    let both = ap (λ ls. slice_get ls n) (cut_join [] t (joined ts)) ∙ ap (λ k. slice_get (lines_of t ++ lines_of (joined ts)) k) sum ∙ slice_get_right (lines_of t) (lines_of (joined ts)) (n - length (lines_of t)) in
    (omega arith, both ∙ s.1 ∙ sym (ap (λ k. on_some (slice_get (t ∷ ts) k) (λ u. slice_get (lines_of u) (p.line - 1))) next))

stands : (ts : List Name) (f n : ℕ) (p : Place) → place f (line_counts ts) (suc n) ≡ Some p → Stands ts f n p
stands [] f n p e = let z : ◌≡◌ {A = ℕ} 0 1 = cc in absurd (omega arith)
stands (t ∷ ts) f n p e = go (leb (suc n) (length (lines_of t))) refl e (stands ts (f + 1) (n - length (lines_of t)) p)
  where
    go : (b : Bool) → leb (suc n) (length (lines_of t)) ≡ b → cond b (Some (record { file = f; line = suc n })) (place (f + 1) (line_counts ts) (suc n - length (lines_of t))) ≡ Some p → (place (f + 1) (line_counts ts) (suc (n - length (lines_of t))) ≡ Some p → Stands ts (f + 1) (n - length (lines_of t)) p) → Stands (t ∷ ts) f n p
    go true q w rest = let same : record { file = f; line = suc n } ≡ p = cc in subst (Stands (t ∷ ts) f n) same (first t ts f n (leb-true (suc n) (length (lines_of t)) q))
    go false q w rest = let far = leb-false (suc n) (length (lines_of t)) q in let less : suc n - length (lines_of t) ≡ suc (n - length (lines_of t)) = omega arith in later t ts f n p (omega (arith, far)) (rest (sym (ap (place (f + 1) (line_counts ts)) less) ∙ w))

pub same_line : SameLine
unfolding Stands
same_line ts n p e = (stands ts 0 n p e).1 ∙ ap (λ k. on_some (slice_get ts k) (λ u. slice_get (lines_of u) (p.line - 1))) (omega arith)
