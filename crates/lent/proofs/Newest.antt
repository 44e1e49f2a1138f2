-- The newest entry of a bucket, and the words that have it.
use Rattle.std.specs.Prelude.{cond}
use Rattle.std.proofs.Common.{◌≡◌, ℕ, zero, suc, ◌+◌, ◌-◌, ◌<◌, ◌≤◌, true, false, eqb, ◌≢◌, List, [], ◌∷◌, ◌++◌, length, get_or, set, sym, refl, ap, ◌∙◌, ⊎_elim, add-one, arith, below_more}
use Rattle.lent.specs.Indexes.{entry_of, newest, Indexed, IsNewest}
use Rattle.std.proofs.lemmas.List.{get_or_append_left, get_or_push, get_or-set_same, get_or-set_other, length-set}
use Rattle.std.proofs.lemmas.Bool.{eq-eqb, ne_eqb, cases_eq}

newest_at : (bs : List ℕ) (h n : ℕ) → get_or bs n 0 ≡ h → newest bs h (suc n) ≡ suc n
newest_at bs h n e = ap (λ b. cond b (suc n) (newest bs h n)) (eq-eqb (get_or bs n 0) h e)

newest_off : (bs : List ℕ) (h n : ℕ) → (get_or bs n 0 ≡ h → ⊥) → newest bs h (suc n) ≡ newest bs h n
newest_off bs h n e = ap (λ b. cond b (suc n) (newest bs h n)) (ne_eqb (get_or bs n 0) h e)

pub newest_le : (bs : List ℕ) (h n : ℕ) → newest bs h n ≤ n
newest_le bs h zero = omega arith
newest_le bs h (suc n) = elim (eqb (get_or bs n 0) h) as (λ b. cond b (suc n) (newest bs h n) ≤ suc n) [ true ↦ omega arith | false ↦ (let l = newest_le bs h n in omega arith) ]

-- no entry past the newest is in the bucket
pub newest_skips : (bs : List ℕ) (h n k : ℕ) → newest bs h n ≤ k → k < n → get_or bs k 0 ≡ h → ⊥
newest_skips bs h zero k l m e = omega arith
newest_skips bs h (suc n) k l m e = ⊎_elim
    (λ (q : k ≡ n). let g = newest_at bs h n (ap (λ i. get_or bs i 0) (sym q) ∙ e) in omega arith)
    (λ (q : k ≡ n → ⊥). newest_skips bs h n k (let s = newest_grows in omega arith) (omega arith) e)
    (cases_eq k n)
  where
    newest_grows : newest bs h n ≤ newest bs h (suc n)
    newest_grows = elim (eqb (get_or bs n 0) h) as (λ b. newest bs h n ≤ cond b (suc n) (newest bs h n)) [ true ↦ (let l = newest_le bs h n in omega arith) | false ↦ omega arith ]

-- and the newest is
pub newest_in : (bs : List ℕ) (h n : ℕ) → 0 < newest bs h n → get_or bs (newest bs h n - 1) 0 ≡ h
newest_in bs h zero l = absurd (omega arith)
newest_in bs h (suc n) l = ⊎_elim
    (λ (e : get_or bs n 0 ≡ h). let g = newest_at bs h n e in let v : newest bs h (suc n) - 1 ≡ n = omega arith in ap (λ i. get_or bs i 0) v ∙ e)
    (λ (e : get_or bs n 0 ≡ h → ⊥). let g = newest_off bs h n e in ap (λ i. get_or bs (i - 1) 0) g ∙ newest_in bs h n (omega arith))
    (cases_eq (get_or bs n 0) h)

-- what a word that has the newest stands for
pub is_newest : (bs : List ℕ) (h n v : ℕ) → v ≡ newest bs h n → IsNewest bs h n (entry_of v)
is_newest bs h n zero e = λ k l. newest_skips bs h n k (omega arith) l
is_newest bs h n (suc v) e =
    let l = newest_le bs h n in
    let p : newest bs h n - 1 ≡ v = omega arith in
    (omega arith, ap (λ i. get_or bs i 0) (sym p) ∙ newest_in bs h n (omega arith), λ k q r. newest_skips bs h n k (omega arith) r)

-- only the buckets of the first n entries count
pub newest_like : (bs cs : List ℕ) (h n : ℕ) → ((k : ℕ) → k < n → get_or bs k 0 ≡ get_or cs k 0) → newest bs h n ≡ newest cs h n
newest_like bs cs h zero f = refl
newest_like bs cs h (suc n) f =
    let e = f n (omega arith) in
    let r = newest_like bs cs h n (λ k l. f k (omega arith)) in
    λ i. cond (eqb (e i) h) (suc n) (r i)

pub indexed_like : (hs ns bs cs : List ℕ) (n : ℕ) → ((k : ℕ) → k < n → get_or bs k 0 ≡ get_or cs k 0) → Indexed hs ns bs n → Indexed hs ns cs n
indexed_like hs ns bs cs n f x = record {
  by_bucket = λ h l. x.by_bucket h l ∙ newest_like bs cs h n f;
  by_entry = λ k l. x.by_entry k l ∙ newest_like bs cs (get_or bs k 0) k (λ j m. f j (omega arith)) ∙ ap (λ h. newest cs h k) (f k l);
}

-- entry n goes into bucket h
pub inserted : (hs ns bs : List ℕ) (n h : ℕ) → h < length hs → n < length ns → get_or bs n 0 ≡ h → Indexed hs ns bs n → Indexed (set hs h (n + 1)) (set ns n (get_or hs h 0)) bs (n + 1)
inserted hs ns bs n h l m e x =
    let s = add-one n in
    let v = get_or hs h 0 in
    record {
      by_bucket = λ g r. ⊎_elim
          (λ (q : g ≡ h). rw (q, s) (get_or-set_same hs h (suc n) 0 l ∙ sym (newest_at bs h n e)))
          (λ (q : g ≡ h → ⊥). rw s (get_or-set_other hs h g (suc n) 0 q ∙ x.by_bucket g (let t = length-set hs h (n + 1) in omega arith) ∙ sym (newest_off bs g n (λ z. q (sym z ∙ e)))))
          (cases_eq g h);
      by_entry = below_more _ n
          (λ k r. let q : k ≢ n = omega arith in get_or-set_other ns n k v 0 q ∙ x.by_entry k r)
          (get_or-set_same ns n v 0 m ∙ x.by_bucket h l ∙ ap (λ g. newest bs g n) (sym e));
    }

pub inserted_last : (hs ns bs : List ℕ) (n h : ℕ) → h < length hs → n < length ns → length bs ≡ n → Indexed hs ns bs n → Indexed (set hs h (n + 1)) (set ns n (get_or hs h 0)) (bs ++ h ∷ []) (n + 1)
inserted_last hs ns bs n h l m e x =
    inserted hs ns (bs ++ h ∷ []) n h l m (get_or_push bs h 0 n e)
    (indexed_like hs ns bs (bs ++ h ∷ []) n (λ k q. sym (get_or_append_left bs (h ∷ []) 0 k (omega arith))) x)
