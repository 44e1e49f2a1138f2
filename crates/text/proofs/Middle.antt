use Rattle.std.specs.Prelude.{Option}
use Rattle.std.proofs.Common.{◌≡◌, ℕ, suc, ◌+◌, ◌-◌, ◌<◌, ◌≤◌, ltb, List, [], ◌∷◌, length, take, drop, sym, refl, ap, ◌∙◌, ⊎_elim, arith}
use Rattle.std.specs.List.{between}
use Rattle.std.specs.Bool.{then_some}
use Rattle.std.proofs.lemmas.List.{take-take, drop-take, drop-drop}
use Rattle.std.proofs.lemmas.List.Edits.{length-between}
use Rattle.std.proofs.lemmas.Bool.{lt-ltb, le-ltb, cases_lt}
use Rattle.base.specs.Choices.{opt}
use Rattle.text.specs.Words.{cut}
use Rattle.text.specs.Readers.{bytes}
use Rattle.text.specs.declared.reader.Span.{Span}
use Rattle.text.proofs.Cuts.{run, run_le, cut_run}

front : (t : List ℕ) (p q n : ℕ) → n ≤ q - p → take n (between p q t) ≡ between p (p + n) t
front t p q n h = let e : p + n - p ≡ n = omega arith in rw (e) (take-take n (q - p) (drop p t) h)

back : (t : List ℕ) (p q n : ℕ) → n ≤ q - p → drop n (between p q t) ≡ between (p + n) q t
back t p q n h = let e : q - p ≡ n + (q - (p + n)) = omega arith in rw e (drop-take n (q - (p + n)) (drop p t) ∙ ap (take (q - (p + n))) (drop-drop n p t))

-- what is left behind the place m at which a part that ends at q was cut
abbrev pub rest_behind : ℕ → ℕ → Option Span
rest_behind m q = then_some (ltb m q) (record { start = m + 1; end = q })

-- the first piece of a part, and the pieces of what is left behind it
pub mid_pieces : (c : ℕ) (t : List ℕ) (p q n : ℕ) → p ≤ q → q ≤ length t → n ≡ run c (between p q t) → cut c [] (between p q t) ≡ between p (p + n) t ∷ opt (rest_behind (p + n) q) [] (λ s. cut c [] (bytes t s))
mid_pieces c t p q n a b r =
    let l = length-between t p q b in
    let u = run_le c (between p q t) in
    let f = front t p q n (omega arith) in
    let e = cut_run c [] (between p q t) in
    ⊎_elim
    (λ (h : n < q - p).
    let g = lt-ltb n (length (between p q t)) (omega arith) in
    let k = lt-ltb (p + n) q (omega arith) in
    let d = back t p q (suc n) (omega arith) in
    let i : p + suc n ≡ p + n + 1 = omega arith in
    let j = sym r in e ∙ rw (j, g, k, f, d, i) refl)
    (λ (h : q - p ≤ n).
    let g = le-ltb n (length (between p q t)) (omega arith) in
    let k = le-ltb (p + n) q (omega arith) in
    let j = sym r in e ∙ rw (j, g, k, f) refl)
    (cases_lt n (q - p))

-- and their sizes
pub mid_sizes : (t : List ℕ) (p q n : ℕ) → p ≤ q → q ≤ length t → n ≤ length (between p q t) → opt (rest_behind (p + n) q) 0 (λ s. suc (length (bytes t s))) + suc (length (between p (p + n) t)) ≤ suc (length (between p q t))
mid_sizes t p q n a b h =
    let l = length-between t p q b in
    let k = length-between t p (p + n) (omega arith) in
    ⊎_elim
    (λ (g : p + n < q). let e = lt-ltb (p + n) q g in let i = length-between t (p + n + 1) q b in rw e (omega arith))
    (λ (g : q ≤ p + n). let e = le-ltb (p + n) q g in rw e (omega arith))
    (cases_lt (p + n) q)
