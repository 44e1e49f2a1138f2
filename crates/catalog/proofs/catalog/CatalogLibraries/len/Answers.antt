use Rattle.std.proofs.Common.{sym}
use Rattle.tables.proofs.Looking.{count_is}
use Rattle.catalog.proofs.catalog.CatalogLibraries.len.Goals as goal

pub returns : goal.returns
returns c = sym (count_is c.args.self.now.parts.tables)
