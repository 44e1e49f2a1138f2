-- Cells looked through from one on, and what of tables they are.
use Rattle.std.specs.Prelude.{Bool, true, false, not, ◌&&◌, None, Option, Some, cond, is_none, slice_get}
use Rattle.std.specs.Option.{option_map}
use Rattle.std.specs.List.{position_from, list_all}
use Rattle.std.proofs.Common.{◌≡◌, ℕ, zero, suc, ◌+◌, List, [], ◌∷◌, drop, sym, refl, ap, ◌∙◌, arith}
use Rattle.std.proofs.lemmas.Option.{same_Some, none-some}
use Rattle.base.specs.Choices.{opt, on_some}
use Rattle.library.specs.Library.{Library, Cell}
use Rattle.links.specs.Links.{Links, Module}
use Rattle.links.specs.Load.{ref_met}
use Rattle.libraries.specs.Looks.{part_at}
use Rattle.lent.specs.Tables.{rows_in}
use Rattle.linkage.specs.Tables.{library_at, module_at, module_of, links_of}
use Rattle.linkage.specs.declared.tables.Tables.{Tables}
use Rattle.linkage.specs.declared.types.Module as code
use Rattle.linkage.proofs.Numbered.{module_is}
use Rattle.refs.specs.Unmet.{cells_at, first_unmet}

-- cells from cell i on: the number of the first that isn't met
abbrev pub unmet_from : Links → ℕ → ℕ → List Cell → Option ℕ
unmet_from k me i cells = position_from (λ c. not (ref_met k me c)) i (drop i cells)

-- a list from element i on
drop_next : {A : Type 0} (xs : List A) (i : ℕ) (x : A) → Some x ≡ slice_get xs i → drop i xs ≡ x ∷ drop (i + 1) xs
drop_next [] i x e = absurd (none-some _ (sym e))
drop_next (y ∷ ys) zero x e = ap (λ z. z ∷ ys) (same_Some _ _ (sym e))
drop_next (y ∷ ys) (suc i) x e = drop_next ys i x e ∙ (let q : suc (i + 1) ≡ suc i + 1 = omega arith in ap (λ n. x ∷ drop n (y ∷ ys)) q)

-- cell i of library n
cells_of : (ls : List Library) (n i : ℕ) → part_at ls n (λ l. l.cells) i ≡ slice_get (library_at ls n).cells i
cells_of ls n i = go (slice_get ls n)
  where
    go : (o : Option Library) → on_some o (λ l. slice_get l.cells i) ≡ slice_get (opt o (library_at [] 0) (λ l. l)).cells i
    go None = refl
    go (Some l) = refl

-- cell i lacks what it must find, or the next ones are looked at
unmet_next : (k : Links) (ls : List Library) (n me i : ℕ) (c : Cell) (b : Bool) → Some c ≡ part_at ls n (λ l. l.cells) i → b ≡ ref_met k me c → unmet_from k me i (library_at ls n).cells ≡ cond (not b) (Some i) (unmet_from k me (i + 1) (library_at ls n).cells)
unmet_next k ls n me i c b e m =
    let cs = (library_at ls n).cells in
    ap (position_from (λ c. not (ref_met k me c)) i) (drop_next cs i c (e ∙ cells_of ls n i))
    ∙ ap (λ b. cond (not b) (Some i) (unmet_from k me (i + 1) cs)) (sym m)

pub unmet_here : (k : Links) (ls : List Library) (n me i : ℕ) (c : Cell) (b : Bool) → Some c ≡ part_at ls n (λ l. l.cells) i → b ≡ ref_met k me c → b ≡ false → unmet_from k me i (library_at ls n).cells ≡ first_unmet k me (library_at ls n).cells → Some i ≡ first_unmet k me (library_at ls n).cells
unmet_here k ls n me i c b e m f h = sym (unmet_next k ls n me i c b e m ∙ ap (λ b. cond (not b) (Some i) (unmet_from k me (i + 1) (library_at ls n).cells)) f) ∙ h

pub unmet_on : (k : Links) (ls : List Library) (n me i : ℕ) (c : Cell) (b : Bool) → Some c ≡ part_at ls n (λ l. l.cells) i → b ≡ ref_met k me c → b ≡ true → unmet_from k me i (library_at ls n).cells ≡ first_unmet k me (library_at ls n).cells → unmet_from k me (i + 1) (library_at ls n).cells ≡ first_unmet k me (library_at ls n).cells
unmet_on k ls n me i c b e m t h = sym (unmet_next k ls n me i c b e m ∙ ap (λ b. cond (not b) (Some i) (unmet_from k me (i + 1) (library_at ls n).cells)) t) ∙ h

-- none lacks anything
none_where_all : {A : Type 0} (p : A → Bool) (i : ℕ) (xs : List A) → is_none (position_from (λ x. not (p x)) i xs) ≡ list_all p xs
none_where_all p i [] = refl
none_where_all p i (x ∷ xs) = go (p x) (none_where_all p (i + 1) xs)
  where
    go : (b : Bool) → is_none (position_from (λ x. not (p x)) (i + 1) xs) ≡ list_all p xs → is_none (cond (not b) (Some i) (position_from (λ x. not (p x)) (i + 1) xs)) ≡ (b && list_all p xs)
    go true h = h
    go false h = refl

pub all_where_none : (k : Links) (me : ℕ) (r : Option ℕ) → r ≡ first_unmet k me (cells_at k me) → is_none r ≡ opt (slice_get k.modules me) true (λ x. list_all (ref_met k me) x.lib.cells)
all_where_none k me r e = ap is_none e ∙ go (slice_get k.modules me)
  where
    go : (o : Option Module) → is_none (first_unmet k me (opt o [] (λ x. x.lib.cells))) ≡ opt o true (λ x. list_all (ref_met k me) x.lib.cells)
    go None = refl
    go (Some x) = none_where_all (ref_met k me) 0 x.lib.cells

-- the first of a module's cells, by what the tables say of it
pub first_is : (ls : List Library) (t : Tables) (me : ℕ) (o : Option code.Module) (r : Option ℕ) → o ≡ option_map (module_at t me) (slice_get (rows_in 3 t.modules) me) → r ≡ first_unmet (links_of ls t) me (opt o [] (λ m. (library_at ls m.load.library.0).cells)) → r ≡ first_unmet (links_of ls t) me (cells_at (links_of ls t) me)
first_is ls t me o r e h = h ∙ ap (first_unmet (links_of ls t) me) (ap by_load e ∙ go (slice_get (rows_in 3 t.modules) me) ∙ ap by_lib (sym (module_is ls t me)))
  where
    by_load : Option code.Module → List Cell
    by_load o = opt o [] (λ m. (library_at ls m.load.library.0).cells)

    by_lib : Option Module → List Cell
    by_lib o = opt o [] (λ x. x.lib.cells)

    go : (r : Option (List ℕ)) → by_load (option_map (module_at t me) r) ≡ by_lib (option_map (module_of ls t me) r)
    go None = refl
    go (Some r) = refl
