use Rattle.std.proofs.Common.{◌∙◌}
use Rattle.library.specs.Library.{Library}
use Rattle.tables.specs.Store.{store, library_at}
use Rattle.catalog.proofs.Looking.{no_field, field_is}
use Rattle.catalog.proofs.catalog.CatalogLibraries.inward.Goals as goal

pub returns-in_err-row : goal.returns-in_err-row
unfolding store
returns-in_err-row c = c.from_residual.ensures ∙ no_field (store c.args.self.now.parts.tables) c.args.id.0 (λ (l : Library). l.inward) c.in_err-row.ensures.value

pub returns : goal.returns
unfolding store library_at
returns c = field_is (store c.args.self.now.parts.tables) c.args.id.0 c.in_ok-row.row.now (λ (l : Library). l.inward) c.in_ok-row.ensures.value
