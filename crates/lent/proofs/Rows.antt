-- Rows of a fixed width: how many there are, one read, one written, one more.
use Rattle.std.proofs.lemmas.Option.{slice_get-get_or, slice_get_past}
use Rattle.std.specs.Prelude.{None, Some, slice_get, slice_set}
use borrow.Rule.Slice.PartMut.{put_mid}
use Rattle.std.proofs.Common.{◌≡◌, ℕ, ◌+◌, ◌-◌, ◌*◌, ◌<◌, ◌≤◌, min, ◌≢◌, List, [], ◌∷◌, ◌++◌, length, get_or, take, drop, set, sym, refl, ap, ◌∙◌, ⊎_elim, mul-le-mul_left, mul-one, mul-add, arith}
use Rattle.lent.specs.Tables.{row_at, rows_of}
use Rattle.std.proofs.lemmas.List.FromFn.{length-map-range_with_len, get_or-map-range_with_len, take-map-range_with_len, map-range_with_len_more, fill_by_all}
use Rattle.std.proofs.lemmas.List.{length-set, get_or-set_same, get_or-set_other, set_past, take_all}
use Rattle.std.proofs.lemmas.Slice.{between_is, take-put_mid_below, drop-put_mid, between-put_mid}
use Rattle.std.proofs.lemmas.Bool.{cases_lt, cases_eq}

-- a row lies below the next one's start
pub row_end : (w i n : ℕ) → i < n → w * i + w ≤ w * n
row_end w i n h = let a : i + 1 ≤ n = omega arith in omega (arith, mul-le-mul_left w a, mul-add w i 1, mul-one w)

-- how many rows, and which
pub rows_none : (w : ℕ) (ws : List ℕ) → rows_of w ws 0 ≡ []
unfolding rows_of
rows_none w ws = refl

pub rows_len : (w : ℕ) (ws : List ℕ) (n : ℕ) → length (rows_of w ws n) ≡ n
unfolding rows_of
rows_len w ws n = length-map-range_with_len (row_at w ws) 0 n

pub rows_get : (w : ℕ) (ws : List ℕ) (n i : ℕ) → i < n → get_or (rows_of w ws n) i [] ≡ row_at w ws i
unfolding rows_of
rows_get w ws n i h = get_or-map-range_with_len (row_at w ws) 0 n i i [] h (omega arith)

pub rows_slice_get : (w : ℕ) (ws : List ℕ) (n i : ℕ) → i < n → slice_get (rows_of w ws n) i ≡ Some (row_at w ws i)
rows_slice_get w ws n i h = let l = rows_len w ws n in slice_get-get_or (rows_of w ws n) i [] (omega arith) ∙ ap Some (rows_get w ws n i h)

pub rows_past : (w : ℕ) (ws : List ℕ) (n i : ℕ) → n ≤ i → slice_get (rows_of w ws n) i ≡ None
rows_past w ws n i h = let l = rows_len w ws n in slice_get_past (rows_of w ws n) i (omega arith)

-- after row i was written over, x being its words: k is w
pub row_same : (w : ℕ) (ws x : List ℕ) (i k : ℕ) → w * i ≤ length ws → length x ≡ w → row_at w (put_mid (w * i) k ws x) i ≡ x
row_same w ws x i k h l = between-put_mid (w * i) k ws x (w * i + w) h (omega arith)

pub row_other : (w : ℕ) (ws x : List ℕ) (i k j : ℕ) → w * i ≤ length ws → length x ≡ w → k ≡ w → j ≢ i → row_at w (put_mid (w * i) k ws x) j ≡ row_at w ws j
row_other w ws x i k j h l e q =
    let v = put_mid (w * i) k ws x in
    ⊎_elim
    (λ b. between_is v (w * j) (w * j + w) ∙ ap (drop (w * j)) (take-put_mid_below (w * i) k ws x (w * j + w) (row_end w j i b) h) ∙ sym (between_is ws (w * j) (w * j + w)))
    (λ b. let f = row_end w i j (omega arith) in ap (take (w * j + w - w * j)) (drop-put_mid (w * i) k ws x (w * j) (omega arith) h (omega arith)))
    (cases_lt j i)

pub rows_push : (w : ℕ) (ws x : List ℕ) (n k : ℕ) → w * n ≤ length ws → length x ≡ w → k ≡ w → rows_of w (put_mid (w * n) k ws x) (n + 1) ≡ rows_of w ws n ++ x ∷ []
unfolding rows_of
rows_push w ws x n k h l e =
    let v = put_mid (w * n) k ws x in
    let f = row_at w ws in
    let a : rows_of w v n ≡ rows_of w ws n = fill_by_all f (rows_of w v n) n [] (rows_len w v n) (λ j b. rows_get w v n j b ∙ row_other w ws x n k j h l e (omega arith)) in
    map-range_with_len_more (row_at w v) 0 n n (omega arith) ∙ ap (λ u. u ++ row_at w v n ∷ []) a ∙ ap (λ u. rows_of w ws n ++ u ∷ []) (row_same w ws x n k h l)

pub rows_put : (w : ℕ) (ws x : List ℕ) (n i k : ℕ) → i < n → w * i ≤ length ws → length x ≡ w → k ≡ w → rows_of w (put_mid (w * i) k ws x) n ≡ slice_set (rows_of w ws n) i x
unfolding rows_of
rows_put w ws x n i k b h l e =
    let v = put_mid (w * i) k ws x in
    let rs = rows_of w ws n in
    let m = rows_len w ws n in
    let at : (j : ℕ) → j < n → get_or (set rs i x) j [] ≡ row_at w v j = λ j c. ⊎_elim
    (λ (q : j ≡ i). ap (λ z. get_or (set rs i x) z []) q ∙ get_or-set_same rs i x [] (omega arith) ∙ sym (row_same w ws x i k h l) ∙ ap (row_at w v) (sym q))
    (λ (q : j ≡ i → ⊥). get_or-set_other rs i j x [] q ∙ rows_get w ws n j c ∙ sym (row_other w ws x i k j h l e q))
    (cases_eq j i) in
    sym (fill_by_all (row_at w v) (set rs i x) n [] (length-set rs i x ∙ m) at)

pub rows_put_past : (w : ℕ) (ws x : List ℕ) (n i : ℕ) → n ≤ i → slice_set (rows_of w ws n) i x ≡ rows_of w ws n
rows_put_past w ws x n i h = let l = rows_len w ws n in set_past (rows_of w ws n) i x (omega arith)

pub rows_take : (w : ℕ) (ws : List ℕ) (n m : ℕ) → rows_of w ws (min n m) ≡ take m (rows_of w ws n)
unfolding rows_of
rows_take w ws n m = ⊎_elim
    (λ b. let e : min n m ≡ n = omega arith in ap (rows_of w ws) e ∙ sym (take_all m (rows_of w ws n) (omega (arith, rows_len w ws n))))
    (λ b. let e : min n m ≡ m = omega arith in ap (rows_of w ws) e ∙ sym (take-map-range_with_len (row_at w ws) 0 n m b))
    (cases_lt n m)
