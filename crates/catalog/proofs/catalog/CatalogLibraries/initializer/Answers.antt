use Rattle.std.proofs.Common.{[], refl, ◌∙◌}
use Rattle.library.specs.Library.{Library}
use Rattle.tables.specs.Store.{store, library_at}
use Rattle.catalog.proofs.Looking.{part_is}
use Rattle.catalog.proofs.catalog.CatalogLibraries.initializer.Goals as goal

pub returns : goal.returns
unfolding store library_at
returns c = c.part.ensures [] ∙ part_is (store c.args.self.now.parts.tables) c.args.id.0 7 c.args.j (λ (l : Library). l.inits) (store c.args.self.now.parts.tables).inits (λ r. refl)
