-- A library's row, and what stands in the tables of its parts.
use Rattle.std.proofs.lemmas.Option.{slice_get-map}
use Rattle.std.specs.Option.{option_map}
use Rattle.std.specs.Prelude.{None, Option, Some, slice_get}
use Rattle.std.proofs.Common.{◌≡◌, ℕ, ◌+◌, ◌-◌, min, List, length, get_or, drop, sym, refl, ap, ◌∙◌, arith}
use Rattle.std.specs.List.{between}
use Rattle.std.proofs.lemmas.List.{length-take, length-drop}
use Rattle.base.specs.Choices.{on_some}
use Rattle.library.specs.Library.{Library}
use Rattle.tables.specs.Store.{Store, library_at, done}
use Rattle.libraries.specs.Looks.{part_at}
use Rattle.catalog.specs.Looks.{part_in}

-- the part of a library, by its row
pub part_is : {X : Type 0} (s : Store) (i w j : ℕ) (f : Library → List X) (xs : List X) → ((r : List ℕ) → f (library_at s r) ≡ between (get_or r w 0) (get_or r (w + 1) 0) xs) → part_in s.libs i w xs j ≡ part_at (done s) i f j
part_is s i w j f xs e = sym (ap (λ o. on_some o (λ l. slice_get (f l) j)) (slice_get-map (library_at s) s.libs i) ∙ go (slice_get s.libs i))
  where
    go : (o : Option (List ℕ)) → on_some (option_map (library_at s) o) (λ l. slice_get (f l) j) ≡ on_some o (λ r. slice_get (between (get_or r w 0) (get_or r (w + 1) 0) xs) j)
    go None = refl
    go (Some r) = ap (λ ys. slice_get ys j) (e r)

-- what is said of a library, by its row
pub no_field : {X : Type 0} (s : Store) (i : ℕ) (f : Library → X) → None ≡ slice_get s.libs i → None ≡ option_map f (slice_get (done s) i)
no_field s i f e = ap (option_map f) (ap (option_map (library_at s)) e ∙ sym (slice_get-map (library_at s) s.libs i))

pub field_is : {X : Type 0} (s : Store) (i : ℕ) (r : List ℕ) (f : Library → X) → Some r ≡ slice_get s.libs i → Some (f (library_at s r)) ≡ option_map f (slice_get (done s) i)
field_is s i r f e = ap (option_map f) (ap (option_map (library_at s)) e ∙ sym (slice_get-map (library_at s) s.libs i))

-- how many parts there are
pub part_count : {X : Type 0} (a b n : ℕ) (xs : List X) → length xs ≡ n → length (between a b xs) ≡ min b n - a
part_count a b n xs e = length-take (b - a) (drop a xs) ∙ (let d = length-drop a xs in omega arith)
