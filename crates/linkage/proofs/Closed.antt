-- A group of the tables, closed.
use Rattle.std.specs.Prelude.{Option, None, Some, slice_get, slice_set}
use Rattle.std.specs.Option.{option_map}
use Rattle.std.proofs.Common.{◌≡◌, ℕ, List, map, sym, ap, ◌∙◌, refl}
use Rattle.std.proofs.lemmas.List.{map-set}
use Rattle.std.proofs.lemmas.Option.{slice_get-map, same_Some, none-some}
use Rattle.base.specs.Choices.{opt}

-- an element that there is becomes what c makes of it; the rows are read by f
pub put_read : {R G X : Type 0} (f : R → X) (a : R → G) (c : X → X) (rs ss : List R) (i : ℕ) (row : R) (g : G) → Some g ≡ option_map a (slice_get rs i) → ss ≡ slice_set rs i row → ((r : R) → a r ≡ g → f row ≡ c (f r)) → map f ss ≡ opt (slice_get (map f rs) i) (map f rs) (λ x. slice_set (map f rs) i (c x))
put_read {R} {G} {X} f a c rs ss i row g e s h = ap (map f) s ∙ map-set f rs i row ∙ go (slice_get rs i) refl e
  where
    go : (o : Option R) → slice_get rs i ≡ o → Some g ≡ option_map a o → slice_set (map f rs) i (f row) ≡ opt (slice_get (map f rs) i) (map f rs) (λ x. slice_set (map f rs) i (c x))
    go None q p = absurd (none-some _ (sym p))
    go (Some r) q p =
        ap (slice_set (map f rs) i) (h r (sym (same_Some _ _ p)))
        ∙ sym (ap (λ o. opt o (map f rs) (λ x. slice_set (map f rs) i (c x))) (slice_get-map f rs i ∙ ap (option_map f) q))

-- where there is none, nothing changes
pub put_none : {R G X : Type 0} (f : R → X) (a : R → G) (c : X → X) (rs : List R) (i : ℕ) → None ≡ option_map a (slice_get rs i) → map f rs ≡ opt (slice_get (map f rs) i) (map f rs) (λ x. slice_set (map f rs) i (c x))
put_none {R} {G} {X} f a c rs i e = go (slice_get rs i) refl e
  where
    go : (o : Option R) → slice_get rs i ≡ o → None ≡ option_map a o → map f rs ≡ opt (slice_get (map f rs) i) (map f rs) (λ x. slice_set (map f rs) i (c x))
    go None q p = sym (ap (λ o. opt o (map f rs) (λ x. slice_set (map f rs) i (c x))) (slice_get-map f rs i ∙ ap (option_map f) q))
    go (Some r) q p = absurd (none-some _ p)
