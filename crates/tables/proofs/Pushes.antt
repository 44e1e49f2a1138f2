-- One row more, where there is room for it.
use Rattle.std.specs.Prelude.{cond}
use Rattle.std.proofs.Common.{◌≡◌, ℕ, ◌≤◌, Bool, leb, List, [], ◌∷◌, ◌++◌, map, length, ap, ◌∙◌}
use Rattle.std.proofs.lemmas.List.{map_push, length-map}
use Rattle.std.proofs.lemmas.Bool.{le-leb}
use Rattle.lent.specs.Tables.{rows_of}
use Rattle.lent.proofs.Rows.{rows_len}

pub taken : {X : Type 0} (r : Bool) (a b : ℕ) (x y z : X) → r ≡ leb a b → a ≤ b → x ≡ cond r y z → x ≡ y
taken r a b x y z e h f = f ∙ ap (λ v. cond v y z) (e ∙ le-leb a b h)

-- what rows stand for, one more of them
pub pushed : {X : Type 0} (f : List ℕ → X) (us vs : List (List ℕ)) (x : List ℕ) (y : X) → us ≡ vs ++ x ∷ [] → f x ≡ y → map f us ≡ map f vs ++ y ∷ []
pushed f us vs x y e g = ap (map f) e ∙ map_push f vs x ∙ ap (λ z. map f vs ++ z ∷ []) g

pub rows_count : {X : Type 0} (f : List ℕ → X) (w : ℕ) (ws : List ℕ) (n : ℕ) → length (map f (rows_of w ws n)) ≡ n
rows_count f w ws n = length-map (rows_of w ws n) f ∙ rows_len w ws n
