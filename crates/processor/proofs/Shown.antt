-- A list and its fronts.
use Rattle.std.proofs.Common.{ℕ, List, [], ◌∷◌, ◌++◌}
use Rattle.processor.specs.Laws.{Front, none_yet, and_so}

pub front_self : (xs : List ℕ) → Front xs xs
front_self [] = none_yet
front_self (x ∷ xs) = and_so (front_self xs)

pub front_more : (xs ys : List ℕ) → Front xs (xs ++ ys)
front_more [] ys = none_yet
front_more (x ∷ xs) ys = and_so (front_more xs ys)

pub front_trans : {xs ys zs : List ℕ} → Front xs ys → Front ys zs → Front xs zs
front_trans none_yet q = none_yet
front_trans (and_so p) (and_so q) = and_so (front_trans p q)
