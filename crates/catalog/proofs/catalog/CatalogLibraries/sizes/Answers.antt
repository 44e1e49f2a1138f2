use Rattle.std.specs.Prelude.{Some}
use Rattle.std.proofs.Common.{◌≡◌, ℕ, get_or, sym, ap, ◌∙◌}
use Rattle.rows.specs.Rows.{name_at, number_at, definition_at, cell_at}
use Rattle.libraries.specs.declared.sizes.Sizes.{Sizes}
use Rattle.tables.specs.Store.{store, library_at}
use Rattle.libraries.specs.Looks.{sizes_of}
use Rattle.tables.proofs.Pushes.{rows_count}
use Rattle.catalog.proofs.Looking.{part_count, no_field, field_is}
use Rattle.catalog.proofs.catalog.CatalogLibraries.sizes.Goals as goal

made : (a b c d e p q r s t : ℕ) → a ≡ p → b ≡ q → c ≡ r → d ≡ s → e ≡ t → ◌≡◌ {A = Sizes} (record { needs = a; definitions = b; initializers = c; finalizers = d; cells = e }) (record { needs = p; definitions = q; initializers = r; finalizers = s; cells = t })
made a b c d e p q r s t f g h i j = cc

pub returns-in_err-row : goal.returns-in_err-row
unfolding store
returns-in_err-row c = c.from_residual.ensures ∙ no_field (store c.args.self.now.parts.tables) c.args.id.0 sizes_of c.in_err-row.ensures.value

pub returns : goal.returns
unfolding store library_at
returns c =
    let t = c.args.self.now.parts.tables in
    let r = c.in_ok-row.row.now in
    let a = part_count (get_or r 3 0) (get_or r 4 0) _ (store t).needs (rows_count (name_at t.text.now) 2 t.needs.words.now t.needs.len) in
    let b = part_count (get_or r 5 0) (get_or r 6 0) _ (store t).defs (rows_count (definition_at t.text.now) 6 t.defs.words.now t.defs.len) in
    let d = part_count (get_or r 7 0) (get_or r 8 0) _ (store t).inits (rows_count number_at 1 t.inits.words.now t.inits.len) in
    let e = part_count (get_or r 9 0) (get_or r 10 0) _ (store t).finis (rows_count number_at 1 t.finis.words.now t.finis.len) in
    let f = part_count (get_or r 11 0) (get_or r 12 0) _ (store t).cells (rows_count (cell_at t.text.now) 6 t.cells.words.now t.cells.len) in
    ap Some (made _ _ _ _ _ _ _ _ _ _ (c.count.ensures ∙ sym a) (c.count-2.ensures ∙ sym b) (c.count-3.ensures ∙ sym d) (c.count-4.ensures ∙ sym e) (c.count-5.ensures ∙ sym f)) ∙ field_is (store t) c.args.id.0 r sizes_of c.in_ok-row.ensures.value
