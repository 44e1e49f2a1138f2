-- Numbers that come once each, and their marks.
use Rattle.std.specs.Prelude.{cond, replicate}
use Rattle.std.proofs.Common.{◌≡◌, ℕ, zero, suc, ◌+◌, ◌<◌, ◌≤◌, Bool, true, false, ◌||◌, eqb, List, [], ◌∷◌, ◌++◌, length, get_or, take, set, sym, refl, ap, ◌∙◌, subst, ⊎_elim, arith}
use Rattle.std.proofs.lemmas.List.{get_or-set_same, get_or-set_other, length-set, get_or_push, get_or_append_left, take_more_set, length_push, length-take-le, get_or-take}
use Rattle.std.proofs.lemmas.Bool.{cases_eq, eq-eqb, ne_eqb, cases_lt}
use Rattle.base.specs.Lists.{has}
use Rattle.lent.specs.Once.{is_mark, count_marks, Marked, Below}

pub count_le : (ms : List ℕ) → count_marks ms ≤ length ms
count_le [] = omega arith
count_le (x ∷ xs) = let h = count_le xs in elim (is_mark x) as (λ v. cond v 1 0 + count_marks xs ≤ suc (length xs)) [ true ↦ omega arith | false ↦ omega arith ]

-- one mark more
pub count_more : (ms : List ℕ) (i : ℕ) → i < length ms → is_mark (get_or ms i 0) ≡ false → count_marks (set ms i 1) ≡ count_marks ms + 1
count_more [] i h e = absurd (omega arith)
count_more (x ∷ xs) zero h e = rw e (omega arith)
count_more (x ∷ xs) (suc i) h e = let a = count_more xs i (omega arith) e in rw a (omega arith)

-- where a mark is missing there is room for a number
pub count_lt : (ms : List ℕ) (i : ℕ) → i < length ms → is_mark (get_or ms i 0) ≡ false → count_marks ms < length ms
count_lt ms i h e = let a = count_more ms i h e in let b = count_le (set ms i 1) in let c = length-set ms i 1 in omega arith

or_false : (b : Bool) → b || false ≡ b
or_false true = refl
or_false false = refl

or_true : (b : Bool) → b || true ≡ true
or_true true = refl
or_true false = refl

or_assoc : (a b c : Bool) → (a || b) || c ≡ a || (b || c)
or_assoc true b c = refl
or_assoc false b c = refl

pub has-push : (k : ℕ) (xs : List ℕ) (j : ℕ) → has k (xs ++ j ∷ []) ≡ has k xs || eqb k j
has-push k [] j = or_false (eqb k j)
has-push k (x ∷ xs) j = ap (λ b. eqb k x || b) (has-push k xs j) ∙ sym (or_assoc (eqb k x) (has k xs) (eqb k j))

marked_push : (ms xs : List ℕ) (j : ℕ) → j < length ms → Marked ms xs → Marked (set ms j 1) (xs ++ j ∷ [])
marked_push ms xs j h m k l =
    ⊎_elim
    (λ (q : k ≡ j). rw q (ap is_mark (get_or-set_same ms j 1 0 h) ∙ sym (has-push j xs j ∙ ap (λ b. has j xs || b) (eq-eqb j j refl) ∙ or_true (has j xs))))
    (λ q. ap is_mark (get_or-set_other ms j k 1 0 q) ∙ m k (omega (arith, length-set ms j 1)) ∙ sym (has-push k xs j ∙ ap (λ b. has k xs || b) (ne_eqb k j q) ∙ or_false (has k xs)))
    (cases_eq k j)

below_push : (xs : List ℕ) (m j : ℕ) → j < m → Below xs m → Below (xs ++ j ∷ []) m
below_push xs m j h b k l = ⊎_elim
    (λ (q : k < length xs). omega (arith, get_or_append_left xs (j ∷ []) 0 k q, b k q))
    (λ (q : length xs ≤ k). let e : length xs ≡ k = omega (arith, length_push xs j) in omega (arith, get_or_push xs j 0 k e))
    (cases_lt k (length xs))

-- a number behind the others, and its mark
pub marked_more : (ms ws : List ℕ) (n j : ℕ) → n < length ws → j < length ms → Marked ms (take n ws) → Marked (set ms j 1) (take (n + 1) (set ws n j))
marked_more ms ws n j r h m = let P : List ℕ → Type 0 = λ xs. Marked (set ms j 1) xs in subst P (sym (take_more_set ws n j r)) (marked_push ms (take n ws) j h m)

pub below_more : (ms ws : List ℕ) (n j : ℕ) → n < length ws → j < length ms → Below (take n ws) (length ms) → Below (take (n + 1) (set ws n j)) (length (set ms j 1))
below_more ms ws n j r h b = rw (take_more_set ws n j r, length-set ms j 1) (below_push (take n ws) (length ms) j h b)

-- no marks
pub count-zeros : (n : ℕ) → count_marks (replicate n 0) ≡ 0
count-zeros zero = refl
count-zeros (suc n) = omega (arith, count-zeros n)

pub marked_none : (n k : ℕ) → is_mark (get_or (replicate n 0) k 0) ≡ false
marked_none zero k = refl
marked_none (suc n) zero = refl
marked_none (suc n) (suc k) = marked_none n k

-- what is past the limit never came
pub has_past : (xs : List ℕ) (n k : ℕ) → Below xs n → n ≤ k → has k xs ≡ false
has_past [] n k b h = refl
has_past (x ∷ xs) n k b h =
    let l : x < n = b 0 (omega arith) in
    let e : eqb k x ≡ false = ne_eqb k x (λ q. omega arith) in
    ap (λ v. v || has k xs) e ∙ has_past xs n k (λ i q. b (suc i) (omega arith)) h

-- there are no more numbers than marks
pub taken_lt : (ms : List ℕ) (len taken : ℕ) → len ≡ count_marks ms → taken < len → taken < length ms
taken_lt ms len taken e h = let c = count_le ms in omega arith

pub below_at : (ws : List ℕ) (n m k : ℕ) → n ≤ length ws → Below (take n ws) m → k < n → get_or ws k 0 < m
below_at ws n m k l b h = omega (arith, b k (omega (arith, length-take-le n ws l)), get_or-take n ws k 0 h)
