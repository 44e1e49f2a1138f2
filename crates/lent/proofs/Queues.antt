-- The part of a list between two places: one more at its end, and the first one taken off.
use Rattle.std.proofs.Common.{◌≡◌, ℕ, suc, ◌+◌, ◌-◌, ◌<◌, ◌≤◌, List, [], ◌∷◌, ◌++◌, length, get_or, set, refl, arith}
use Rattle.std.proofs.lemmas.List.Edits.{between_more}
use Rattle.std.proofs.lemmas.List.{drop_more, get_or-set_same, length-set, take-set}
use Rattle.std.proofs.lemmas.Slice.{between_is}
use Rattle.std.specs.List.{between}

pub pushed : (ws : List ℕ) (h t x : ℕ) → h ≤ t → t < length ws → between h (t + 1) (set ws t x) ≡ between h t ws ++ x ∷ []
pushed ws h t x a b =
    let l : t < length (set ws t x) = simp length-set (omega arith) in
    let e = between_more (set ws t x) h t 0 a l in
    let f = get_or-set_same ws t x 0 b in
    let g = between_is (set ws t x) h t in
    let i = take-set ws t x in
    let j = between_is ws h t in cc

pub popped : (ws : List ℕ) (h t : ℕ) → h < t → t ≤ length ws → between h t ws ≡ get_or ws h 0 ∷ between (h + 1) t ws
popped ws h t a b =
    let e : t - h ≡ suc (t - (h + 1)) = omega arith in
    let l : h < length ws = omega arith in
    let d = drop_more ws h 0 l in rw (e, d) refl
