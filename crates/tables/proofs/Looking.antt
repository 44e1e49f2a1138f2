-- A library's row, and what stands in the tables of its parts.
use Rattle.std.proofs.lemmas.Option.{slice_get-map}
use Rattle.std.specs.Option.{option_map}
use Rattle.std.specs.Prelude.{None, Option, Some, slice_get}
use Rattle.std.proofs.Common.{◌≡◌, ℕ, List, length, sym, ap, ◌∙◌}
use Rattle.std.proofs.lemmas.List.{length-map}
use Rattle.base.specs.Choices.{on_some}
use Rattle.library.specs.Library.{Library}
use Rattle.lent.specs.Tables.{rows_in}
use Rattle.lent.proofs.Rows.{rows_len}
use Rattle.tables.specs.declared.tables.Tables.{Tables}
use Rattle.tables.specs.Store.{Store, store, library_at, done, libraries}

-- where there is no row there is no library
pub no_row : {X : Type 0} (s : Store) (i : ℕ) (f : Library → Option X) → None ≡ slice_get s.libs i → None ≡ on_some (slice_get (done s) i) f
no_row s i f e = sym (ap (λ o. on_some o f) (slice_get-map (library_at s) s.libs i ∙ ap (option_map (library_at s)) (sym e)))

-- a row's library
pub row_is : {X : Type 0} (s : Store) (i : ℕ) (r : List ℕ) (f : Library → Option X) → Some r ≡ slice_get s.libs i → f (library_at s r) ≡ on_some (slice_get (done s) i) f
row_is s i r f e = sym (ap (λ o. on_some o f) (slice_get-map (library_at s) s.libs i ∙ ap (option_map (library_at s)) (sym e)))

pub count_is : (t : Tables) → length (libraries t) ≡ t.libs.len
unfolding store
count_is t = length-map (rows_in 13 t.libs) (library_at (store t)) ∙ rows_len 13 t.libs.words.now t.libs.len
