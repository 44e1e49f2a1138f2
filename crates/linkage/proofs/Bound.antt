-- What a row of bindings says.
use Rattle.std.specs.Prelude.{None, Some, slice_get, slice_index, slice_index_or, unwrap_or}
use Rattle.std.proofs.Common.{◌≡◌, ℕ, suc, List, [], sym, ap, ◌∙◌}
use Rattle.std.proofs.lemmas.Option.{get_or_from_slice_get, unwrap_or-slice_get}
use Rattle.links.specs.Links.{place_at}
use Rattle.linkage.specs.Rows.{bound_by, binding_at}

-- beyond the rows
pub bound_past : (rs : List (List ℕ)) (i : ℕ) → None ≡ slice_get rs i → None ≡ binding_at (slice_index_or rs i [])
bound_past rs i e = ap (λ o. binding_at (unwrap_or o [])) e ∙ ap binding_at (unwrap_or-slice_get rs i [])

-- a row that says nothing
pub bound_nothing : (rs : List (List ℕ)) (i : ℕ) (r : List ℕ) → Some r ≡ slice_get rs i → slice_index r 0 ≡ 0 → None ≡ binding_at (slice_index_or rs i [])
bound_nothing rs i r e z = sym (ap binding_at (get_or_from_slice_get rs i r [] (sym e)) ∙ ap (λ n. bound_by n (slice_index r 1)) z)

-- a row that names a module and a cell of it
pub bound_place : (rs : List (List ℕ)) (i h c : ℕ) (r : List ℕ) → Some r ≡ slice_get rs i → slice_index r 0 ≡ suc h → c ≡ slice_index r 1 → Some (place_at h c) ≡ binding_at (slice_index_or rs i [])
bound_place rs i h c r e z q = ap (λ x. Some (place_at h x)) q ∙ sym (ap binding_at (get_or_from_slice_get rs i r [] (sym e)) ∙ ap (λ n. bound_by n (slice_index r 1)) z)
