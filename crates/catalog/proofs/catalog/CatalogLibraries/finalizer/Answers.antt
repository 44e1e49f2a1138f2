use Rattle.std.proofs.Common.{[], refl, ◌∙◌}
use Rattle.library.specs.Library.{Library}
use Rattle.tables.specs.Store.{store, library_at}
use Rattle.catalog.proofs.Looking.{part_is}
use Rattle.catalog.proofs.catalog.CatalogLibraries.finalizer.Goals as goal

pub returns : goal.returns
unfolding store library_at
returns c = c.part.ensures [] ∙ part_is (store c.args.self.now.parts.tables) c.args.id.0 9 c.args.j (λ (l : Library). l.finis) (store c.args.self.now.parts.tables).finis (λ r. refl)
