-- Rows of a walk, the last one first.
use Rattle.std.specs.Prelude.{Some, cond, slice_get, slice_set, slice_index, nat_le, nat_lt, true, ◌&&◌, Bool}
use Rattle.std.proofs.Common.{◌≡◌, ℕ, zero, suc, ◌-◌, ◌<◌, ◌≤◌, List, [], ◌∷◌, ◌++◌, map, length, take, sym, refl, ap, ◌∙◌, arith}
use Rattle.std.proofs.lemmas.List.{length-map, length_push, length-take-le, map-append, map-set, take-map}
use Rattle.std.proofs.lemmas.Bool.{le-leb, lt-ltb, and_from}
use Rattle.std.proofs.lemmas.Option.{same_Some, none-some}
use Rattle.lent.specs.declared.once.Once.{Once}
use Rattle.lent.specs.Numbers.{numbers}
use Rattle.lent.specs.declared.table.Table.{Table}
use Rattle.lent.specs.Tables.{rows_in, column}
use Rattle.needs.specs.Walks.{Entered, entered_in, entered_at}
use Rattle.lent.proofs.Rows.{rows_len}

pub last_is : {X : Type 0} (xs : List X) (n : ℕ) (x : X) → length xs ≡ suc n → slice_get xs n ≡ Some x → xs ≡ take n xs ++ x ∷ []
last_is [] n x l e = absurd (none-some _ e)
last_is (y ∷ []) zero x l e = ap (λ z. z ∷ []) (same_Some _ _ e)
last_is (y ∷ z ∷ ys) zero x l e = absurd (omega arith)
last_is (y ∷ ys) (suc n) x l e = ap (λ zs. y ∷ zs) (last_is ys n x (omega arith) e)

pub rows_count : (w : ℕ) (t : Table w) → length (rows_in w t) ≡ t.len
rows_count w t = rows_len w t.words.now t.len

pub numbers_count : (o : Once) → length (numbers o) ≡ o.len
numbers_count o = length-take-le o.len o.words.now o.within

-- there is room for a row of w words
pub room_is : (w a l : ℕ) (b : Bool) → b ≡ (nat_lt 0 w && nat_le a l) → 0 < w → a ≤ l → b ≡ true
room_is w a l b e p h = e ∙ and_from _ _ (lt-ltb 0 w p) (le-leb a l h)

pub no_items : {X : Type 0} (xs : List X) → length xs ≡ 0 → xs ≡ []
no_items [] e = refl
no_items (x ∷ xs) e = absurd (omega arith)

-- the library that was entered last
pub last_entered : (t : Table 2) (m : ℕ) (row : List ℕ) → t.len ≡ suc m → slice_get (rows_in 2 t) m ≡ Some row → entered_in t ≡ take m (entered_in t) ++ entered_at row ∷ []
last_entered t m row l e =
    ap (map entered_at) (last_is (rows_in 2 t) m row (rows_count 2 t ∙ l) e)
    ∙ map-append entered_at (take m (rows_in 2 t)) (row ∷ [])
    ∙ ap (λ xs. xs ++ entered_at row ∷ []) (sym (take-map entered_at m (rows_in 2 t)))

pub none_entered : (t : Table 2) → t.len ≡ 0 → entered_in t ≡ []
none_entered t e = ap (map entered_at) (no_items (rows_in 2 t) (rows_count 2 t ∙ e))

-- what became of the tables
pub entered_push : (t u : Table 2) (i n : ℕ) (b : Bool) → b ≡ true → rows_in 2 u ≡ cond b (rows_in 2 t ++ (i ∷ n ∷ []) ∷ []) (rows_in 2 t) → entered_in u ≡ entered_in t ++ record { library = i; looked = n } ∷ []
entered_push t u i n b e f = ap (map entered_at) (f ∙ ap (λ v. cond v (rows_in 2 t ++ (i ∷ n ∷ []) ∷ []) (rows_in 2 t)) e) ∙ map-append entered_at (rows_in 2 t) ((i ∷ n ∷ []) ∷ [])

pub entered_set : (t u : Table 2) (m i n : ℕ) → rows_in 2 u ≡ slice_set (rows_in 2 t) m (i ∷ n ∷ []) → entered_in u ≡ slice_set (entered_in t) m (record { library = i; looked = n })
entered_set t u m i n f = ap (map entered_at) f ∙ map-set entered_at (rows_in 2 t) m (i ∷ n ∷ [])

pub entered_take : (t u : Table 2) (m : ℕ) → rows_in 2 u ≡ take m (rows_in 2 t) → entered_in u ≡ take m (entered_in t)
entered_take t u m f = ap (map entered_at) f ∙ sym (take-map entered_at m (rows_in 2 t))

pub column_push : (t u : Table 1) (i : ℕ) (b : Bool) → b ≡ true → rows_in 1 u ≡ cond b (rows_in 1 t ++ (i ∷ []) ∷ []) (rows_in 1 t) → column u ≡ column t ++ i ∷ []
column_push t u i b e f = ap (map (λ r. slice_index r 0)) (f ∙ ap (λ v. cond v (rows_in 1 t ++ (i ∷ []) ∷ []) (rows_in 1 t)) e) ∙ map-append (λ r. slice_index r 0) (rows_in 1 t) ((i ∷ []) ∷ [])

pub entered_count : (t : Table 2) → length (entered_in t) ≡ t.len
entered_count t = length-map (rows_in 2 t) entered_at ∙ rows_count 2 t

-- a table that has a last row has a row
pub last_some : (t : Table 2) (es : List Entered) (e : Entered) → entered_in t ≡ es ++ e ∷ [] → 0 < t.len
last_some t es e q = omega (arith, entered_count t, ap length q, length_push es e)

-- the rows below the last one
pub below_last : (t : Table 2) → 0 < t.len → length (take (t.len - 1) (entered_in t)) ≡ t.len - 1
below_last t h = length-take-le (t.len - 1) (entered_in t) (omega (arith, entered_count t))
