-- Libraries by name, through the buckets of an index.
use Rattle.std.proofs.lemmas.Option.{get_or_from_slice_get, slice_get-get_or, slice_get_within}
use Rattle.std.specs.Prelude.{None, Option, Some, cond, slice_get}
use Rattle.std.proofs.Common.{◌≡◌, ℕ, suc, ◌<◌, ◌≤◌, Bool, true, false, List, [], ◌∷◌, length, get_or, sym, refl, ap, ◌∙◌, subst, ⊎_elim, arith}
use Rattle.std.proofs.lemmas.List.{get_or-map, get_or_past}
use Rattle.std.proofs.lemmas.Bool.{cases_lt, cases_eq, cases_Bool}
use Rattle.base.specs.Choices.{opt}
use Rattle.base.specs.Names.{Name, same}
use Rattle.base.proofs.Names.{same_is}
use Rattle.library.specs.Library.{Library, find_library}
use Rattle.library.specs.Text.{new_library}
use Rattle.lent.specs.Indexes.{bucket_of, entry_of, IsNewest}
use Rattle.tables.specs.Store.{buckets}

-- whether library k has the name x
abbrev pub named : List Library → ℕ → Name → Bool
named ls k x = opt (slice_get ls k) false (λ l. same l.name x)

-- no library but the first ones up to o, of the name's bucket, has the name
abbrev pub Passed : List Library → Name → ℕ → Option ℕ → Type 0
Passed ls x c None = (k : ℕ) → k < length ls → named ls k x ≡ false
Passed ls x c (Some e) = (e < length ls) × (get_or (buckets c ls) e 0 ≡ bucket_of x c) × ((k : ℕ) → e < k → k < length ls → named ls k x ≡ false)

-- how far there is to go
abbrev pub left : Option ℕ → ℕ
left None = 0
left (Some e) = suc e

bucket_is : (ls : List Library) (c k : ℕ) (l : Library) → slice_get ls k ≡ Some l → get_or (buckets c ls) k 0 ≡ bucket_of l.name c
bucket_is ls c k l e = get_or-map (λ (y : Library). bucket_of y.name c) ls k (new_library []) 0 (slice_get_within ls k l e) ∙ ap (λ (y : Library). bucket_of y.name c) (get_or_from_slice_get ls k l (new_library []) e)

-- a library of another bucket has another name
other : (ls : List Library) (x : Name) (c k : ℕ) → k < length ls → (get_or (buckets c ls) k 0 ≡ bucket_of x c → ⊥) → named ls k x ≡ false
other ls x c k h f =
    let e = slice_get-get_or ls k (new_library []) h in
    ⊎_elim
    (λ (q : same (get_or ls k (new_library [])).name x ≡ true). let r : (get_or ls k (new_library [])).name ≡ x = same_is (get_or ls k (new_library [])).name x q in absurd (f (bucket_is ls c k (get_or ls k (new_library [])) e ∙ ap (λ (y : Name). bucket_of y c) r)))
    (λ (q : same (get_or ls k (new_library [])).name x ≡ false). ap (λ o. opt o false (λ (l : Library). same l.name x)) e ∙ q)
    (cases_Bool (same (get_or ls k (new_library [])).name x))

-- from the newest of the first m on, where none behind them has the name
passed : (ls : List Library) (x : Name) (c m h : ℕ) (o : Option ℕ) → m ≤ length ls → h ≡ bucket_of x c → IsNewest (buckets c ls) h m o → ((k : ℕ) → m ≤ k → k < length ls → named ls k x ≡ false) → Passed ls x c o
passed ls x c m h None l e w f = λ k g. ⊎_elim (λ (q : k < m). other ls x c k g (λ b. w k q (b ∙ sym e))) (λ (q : m ≤ k). f k q g) (cases_lt k m)
passed ls x c m h (Some a) l e w f = (omega (arith, w.0), w.1 ∙ e, λ k b g. ⊎_elim (λ (q : k < m). other ls x c k g (λ z. w.2 k b q (z ∙ sym e))) (λ (q : m ≤ k). f k q g) (cases_lt k m))

pub walk_start : (ls : List Library) (x : Name) (c n h : ℕ) (o : Option ℕ) → length ls ≡ n → h ≡ bucket_of x c → IsNewest (buckets c ls) h n o → Passed ls x c o
walk_start ls x c n h o e f w = passed ls x c n h o (omega arith) f w (λ k a b. absurd (omega arith))

-- the newest of a bucket, also where there are no buckets and no libraries
pub newest_first : (bs hs : List ℕ) (n h : ℕ) (o : Option ℕ) → o ≡ entry_of (get_or hs h 0) → (h < length hs → IsNewest bs h n o) → (0 < length hs → h < length hs) → n ≤ length hs → IsNewest bs h n o
newest_first bs hs n h o e f g l = ⊎_elim (λ (p : 0 < length hs). f (g p)) (λ (p : length hs ≤ 0). let q : n ≡ 0 = omega arith in let P : ℕ → Type 0 = λ m. IsNewest bs h m o in subst P (sym q) (empty o (e ∙ ap entry_of (get_or_past hs h 0 (omega arith))))) (cases_lt 0 (length hs))
  where
    empty : (o : Option ℕ) → o ≡ None → IsNewest bs h 0 o
    empty None q = λ k z y. absurd (omega arith)
    empty (Some a) q = let z : ◌≡◌ {A = ℕ} 0 1 = cc in absurd (omega arith)

pub walk_on : (ls : List Library) (x : Name) (c e : ℕ) (o : Option ℕ) → Passed ls x c (Some e) → named ls e x ≡ false → IsNewest (buckets c ls) (get_or (buckets c ls) e 0) e o → Passed ls x c o
walk_on ls x c e o p q w = passed ls x c e (get_or (buckets c ls) e 0) o (omega (arith, p.0)) p.1 w (λ k a b. ⊎_elim (λ (z : k ≡ e). ap (λ j. named ls j x) z ∙ q) (λ (z : k ≡ e → ⊥). p.2 k (omega arith) b) (cases_eq k e))

pub walk_falls : (bs : List ℕ) (h e : ℕ) (o : Option ℕ) → IsNewest bs h e o → left o < suc e
walk_falls bs h e None w = omega arith
walk_falls bs h e (Some a) w = omega (arith, w.0)

missing : (ls : List Library) (x : Name) → ((k : ℕ) → k < length ls → named ls k x ≡ false) → find_library ls x ≡ None
missing [] x f = refl
missing (l ∷ ls) x f = ap (λ b. cond b (Some l) (find_library ls x)) (f 0 (omega arith)) ∙ missing ls x (λ k h. f (suc k) (omega arith))

pub walk_end : (ls : List Library) (x : Name) (c : ℕ) (o : Option ℕ) → Passed ls x c o → o ≡ None → find_library ls x ≡ None
walk_end ls x c None p e = missing ls x p
walk_end ls x c (Some a) p e = let z : ◌≡◌ {A = ℕ} 0 1 = cc in absurd (omega arith)

pub passed_some : (ls : List Library) (x : Name) (c e : ℕ) (o : Option ℕ) → Passed ls x c o → o ≡ Some e → Passed ls x c (Some e)
passed_some ls x c e o p q = let P : Option ℕ → Type 0 = Passed ls x c in subst P q p

pub left_some : (e : ℕ) (o : Option ℕ) → o ≡ Some e → left o ≡ suc e
left_some e o q = ap left q
