use Rattle.std.specs.Prelude.{Some}
use Rattle.text.specs.Readers.{bytes}
use Rattle.std.specs.Option.{option_map}
use Rattle.std.proofs.Common.{of_calls, refl, ap, ◌∙◌}
use Rattle.library.specs.Library.{Library}
use Rattle.library.specs.Views.{cell_of}
use Rattle.tables.specs.Store.{store, library_at}
use Rattle.catalog.proofs.Looking.{part_is}
use Rattle.catalog.proofs.catalog.CatalogLibraries.cell.Goals as goal

pub returns-in_err-cell : goal.returns-in_err-cell
unfolding store library_at
returns-in_err-cell c = ap (λ o. option_map (cell_of (λ x. x.now)) o) c.from_residual.ensures ∙ c.in_err-cell.ensures c.args.self.now.parts.tables.text.now ∙ part_is (store c.args.self.now.parts.tables) c.args.id.0 11 c.args.j (λ (l : Library). l.cells) (store c.args.self.now.parts.tables).cells (λ r. refl)

pub returns : goal.returns
unfolding store library_at
returns c = ap Some (c.map.ensures (bytes c.args.self.now.parts.tables.text.now) (λ x. x.now) (λ x y p. search of_calls)) ∙ c.before.before.in_ok-cell.ensures c.args.self.now.parts.tables.text.now ∙ part_is (store c.args.self.now.parts.tables) c.args.id.0 11 c.args.j (λ (l : Library). l.cells) (store c.args.self.now.parts.tables).cells (λ r. refl)
