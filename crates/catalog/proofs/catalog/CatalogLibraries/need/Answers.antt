use Rattle.std.specs.Prelude.{Some}
use Rattle.std.specs.Option.{option_map}
use Rattle.std.proofs.Common.{refl, ap, ◌∙◌}
use Rattle.library.specs.Library.{Library}
use Rattle.tables.specs.Store.{store, library_at}
use Rattle.catalog.proofs.Looking.{part_is}
use Rattle.catalog.proofs.catalog.CatalogLibraries.need.Goals as goal

pub returns-in_err-name : goal.returns-in_err-name
unfolding store library_at
returns-in_err-name c = ap (λ o. option_map (λ x. x.now) o) c.from_residual.ensures ∙ c.in_err-name.ensures c.args.self.now.parts.tables.text.now ∙ part_is (store c.args.self.now.parts.tables) c.args.id.0 3 c.args.j (λ (l : Library). l.needs) (store c.args.self.now.parts.tables).needs (λ r. refl)

pub returns : goal.returns
unfolding store library_at
returns c = ap Some c.slice.ensures ∙ c.in_ok-name.ensures c.args.self.now.parts.tables.text.now ∙ part_is (store c.args.self.now.parts.tables) c.args.id.0 3 c.args.j (λ (l : Library). l.needs) (store c.args.self.now.parts.tables).needs (λ r. refl)
