use Rattle.std.specs.Prelude.{None, Option, Some, cond}
use Rattle.std.proofs.Common.{◌≡◌, ℕ, ◌+◌, ◌-◌, ◌*◌, ◌<◌, ◌≤◌, min, true, false, ◌&&◌, ltb, leb, [], ◌∷◌, length, get_or, drop, sym, refl, ap, ◌∙◌, ⊎_elim, arith}
use Rattle.std.proofs.lemmas.List.{at_drop_more, at_drop_all}
use Rattle.std.proofs.lemmas.Bool.{lt-leb, le-ltb, and_left, and_right, cases_lt}
use Rattle.std.specs.Char.{IsNotAsciiDigit}
use Rattle.base.specs.Choices.{on_some, guard}
use Rattle.base.specs.Names.{Name}
use Rattle.text.specs.Words.{digits, below}

abbrev pub cap : ℕ
cap = 18446744073709551615

-- `digits`, where the number stays at `cap` once it's there
abbrev pub sat : ℕ → ℕ → ℕ
sat n c = min (min (n * 10) cap + (c - 48)) cap

abbrev pub capped : ℕ → Name → Option ℕ
capped n [] = Some n
capped n (c ∷ cs) = cond (leb 48 c && leb c 57) (capped (sat n c) cs) None

abbrev pub under : ℕ → Option ℕ → Option ℕ
under m o = on_some o (λ x. guard (ltb x m) (Some x))

sat_min : (n d : ℕ) → min (min (min n cap * 10) cap + d) cap ≡ min (n * 10 + d) cap
sat_min n d = grind arith

last : (n k m : ℕ) → k ≡ min n cap → m ≤ cap → under m (Some k) ≡ under m (Some n)
last n k m e h = ⊎_elim
    (λ (l : n < m). let a : k ≡ n = grind arith in ap (λ x. guard (ltb x m) (Some x)) a)
    (λ (l : m ≤ n). let a : m ≤ k = grind arith in ap (λ b. guard b (Some k)) (le-ltb k m a) ∙ sym (ap (λ b. guard b (Some n)) (le-ltb n m l)))
    (cases_lt n m)

pub capped_is : (w : Name) (n k m : ℕ) → k ≡ min n cap → m ≤ cap → under m (capped k w) ≡ under m (digits n w)
capped_is [] n k m e h = last n k m e h
capped_is (c ∷ cs) n k m e h = elim (leb 48 c && leb c 57) as (λ v. under m (cond v (capped (sat k c) cs) None) ≡ under m (cond v (digits (n * 10 + (c - 48)) cs) None))
    [ true ↦ capped_is cs (n * 10 + (c - 48)) (sat k c) m (ap (λ x. sat x c) e ∙ sat_min n (c - 48)) h | false ↦ refl ]

pub below_capped : (w : Name) (m : ℕ) → m ≤ cap → 0 < length w → below m w ≡ under m (capped 0 w)
below_capped [] m h l = absurd (omega arith)
below_capped (c ∷ cs) m h l = sym (capped_is (c ∷ cs) 0 0 m refl h)

-- one byte of the word
stops : (w : Name) (i n : ℕ) → i < length w → IsNotAsciiDigit (get_or w i 0) → capped n (drop i w) ≡ None
stops w i n l e = at_drop_more (capped n) w i 0 l ∙ ap (λ b. cond b (capped (sat n (get_or w i 0)) (drop (i + 1) w)) None)
    (⊎_elim (λ a. and_left (leb 48 (get_or w i 0)) (leb (get_or w i 0) 57) (lt-leb _ _ a)) (λ a. and_right (leb 48 (get_or w i 0)) (leb (get_or w i 0) 57) (lt-leb _ _ a)) e)

-- the ends of the loop, under its invariant
pub ends_none : (w : Name) (m i n : ℕ) → capped n (drop i w) ≡ capped 0 w → i < length w → m ≤ cap → IsNotAsciiDigit (get_or w i 0) → None ≡ below m w
ends_none w m i n inv l h e = sym (below_capped w m h (omega arith) ∙ ap (under m) (sym inv ∙ stops w i n l e))

pub ends_with : (w : Name) (m i n : ℕ) → capped n (drop i w) ≡ capped 0 w → length w ≤ i → m ≤ cap → (length w ≡ 0 → ⊥) → guard (ltb n m) (Some n) ≡ below m w
ends_with w m i n inv l h e = sym (below_capped w m h (omega arith) ∙ ap (under m) (sym inv ∙ at_drop_all (capped n) w i l))
