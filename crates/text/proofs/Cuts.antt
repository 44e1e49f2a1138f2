use Rattle.std.specs.Prelude.{cond, Some, None}
use Rattle.std.proofs.Common.{◌≡◌, ℕ, suc, ◌+◌, ◌<◌, ◌≤◌, Bool, true, false, eqb, ltb, List, [], ◌∷◌, ◌++◌, length, take, drop, not, sym, refl, ap, ◌∙◌, ⊎_elim, arith}
use Rattle.std.specs.List.{position, position_or_len}
use Rattle.std.specs.Option.{unwrap_or}
use Rattle.std.proofs.lemmas.List.{append-nil, append_assoc}
use Rattle.std.proofs.lemmas.Bool.{lt-ltb, le-ltb, ltb-false, cases_lt}
use Rattle.base.specs.Names.{Name}
use Rattle.text.specs.Words.{cut}

-- how many bytes come before the first c
abbrev pub run : ℕ → List ℕ → ℕ
run c t = position_or_len (λ b. eqb b c) t

pub run_le : (c : ℕ) (t : List ℕ) → run c t ≤ length t
run_le c [] = omega arith
run_le c (x ∷ xs) = elim (eqb x c) as (λ v. cond (not v) (1 + run c xs) 0 ≤ suc (length xs)) [ true ↦ omega arith | false ↦ (let h = run_le c xs in omega arith) ]

pub run_position : (c : ℕ) (t : List ℕ) → unwrap_or (position (λ b. eqb b c) t) (length t) ≡ run c t
run_position c t = go (ltb (run c t) (length t)) refl
  where
    go : (b : Bool) → ltb (run c t) (length t) ≡ b → unwrap_or (cond b (Some (run c t)) None) (length t) ≡ run c t
    go true e = refl
    go false e = let h = ltb-false _ _ e in let k = run_le c t in omega arith

ltb_suc : (a b : ℕ) → ltb (1 + a) (suc b) ≡ ltb a b
ltb_suc a b = ⊎_elim (λ (h : a < b). lt-ltb (1 + a) (suc b) (omega arith) ∙ sym (lt-ltb a b h)) (λ (h : b ≤ a). le-ltb (1 + a) (suc b) (omega arith) ∙ sym (le-ltb a b h)) (cases_lt a b)

-- the pieces of what comes behind the first n bytes and the one at which the text was cut
abbrev pub behind : ℕ → List ℕ → ℕ → List Name
behind c t n = cond (ltb n (length t)) (cut c [] (drop (suc n) t)) []

-- the first piece, and the pieces of what comes behind it
pub cut_run : (c : ℕ) (w t : List ℕ) → cut c w t ≡ (w ++ take (run c t) t) ∷ behind c t (run c t)
cut_run c w [] = ap (λ v. v ∷ []) (sym (append-nil w))
cut_run c w (x ∷ xs) = elim (eqb x c) as (λ v. cond v (w ∷ cut c [] xs) (cut c (w ++ (x ∷ [])) xs) ≡ (w ++ take (cond (not v) (1 + run c xs) 0) (x ∷ xs)) ∷ behind c (x ∷ xs) (cond (not v) (1 + run c xs) 0)) [
  | true ↦ (let e = append-nil w in let f = lt-ltb 0 (suc (length xs)) (omega arith) in rw (e, f) refl)
  | false ↦ (let e = cut_run c (w ++ (x ∷ [])) xs in let f = ltb_suc (run c xs) (length xs) in let g = append_assoc w (x ∷ []) (take (run c xs) xs) in let h : 1 + run c xs ≡ suc (run c xs) = omega arith in e ∙ rw (f, g, h) refl)
]
