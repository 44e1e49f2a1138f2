-- Modules by their number.
use Rattle.std.specs.Prelude.{slice_get}
use Rattle.std.specs.Option.{option_map}
use Rattle.std.proofs.Common.{◌≡◌, ℕ, zero, suc, ◌+◌, List, [], ◌∷◌, length, refl, ap, ◌∙◌, arith}
use Rattle.library.specs.Library.{Library}
use Rattle.lent.specs.Tables.{rows_in}
use Rattle.lent.proofs.Rows.{rows_len}
use Rattle.linkage.specs.Tables.{numbered, module_of, links_of}
use Rattle.linkage.specs.declared.tables.Tables.{Tables}

pub numbered_len : {X : Type 0} (f : ℕ → List ℕ → X) (a : ℕ) (rs : List (List ℕ)) → length (numbered f a rs) ≡ length rs
numbered_len f a [] = refl
numbered_len f a (r ∷ rs) = ap suc (numbered_len f (suc a) rs)

pub numbered_get : {X : Type 0} (f : ℕ → List ℕ → X) (a i : ℕ) (rs : List (List ℕ)) → slice_get (numbered f a rs) i ≡ option_map (f (a + i)) (slice_get rs i)
numbered_get f a i [] = refl
numbered_get f a zero (r ∷ rs) = let q : a + 0 ≡ a = omega arith in rw q refl
numbered_get f a (suc i) (r ∷ rs) = let q : suc a + i ≡ a + suc i = omega arith in numbered_get f (suc a) i rs ∙ ap (λ n. option_map (f n) (slice_get rs i)) q

-- module i of the links
pub module_is : (ls : List Library) (t : Tables) (i : ℕ) → slice_get (links_of ls t).modules i ≡ option_map (module_of ls t i) (slice_get (rows_in 3 t.modules) i)
module_is ls t i = let q : 0 + i ≡ i = omega arith in numbered_get (module_of ls t) 0 i (rows_in 3 t.modules) ∙ ap (λ n. option_map (module_of ls t n) (slice_get (rows_in 3 t.modules) i)) q

-- as many modules as rows
pub modules_len : (ls : List Library) (t : Tables) → length (links_of ls t).modules ≡ t.modules.len
modules_len ls t = numbered_len (module_of ls t) 0 (rows_in 3 t.modules) ∙ rows_len 3 t.modules.words.now t.modules.len
