use Rattle.std.proofs.Common.{ap, ◌∙◌}
use Rattle.std.specs.Option.{option_map}
use Rattle.std.specs.Prelude.{None}
use Rattle.linkage.specs.Views.{place_of}
use Rattle.scopes.proofs.Looking.{module_has, cell_in}
use Rattle.scopes.proofs.search.Search.in_module.Goals as goal

pub returns-in_err-module : goal.returns-in_err-module
returns-in_err-module g c = ap (option_map place_of) c.from_residual.ensures ∙ module_has (g.L.Libraries.libs c.args.self.now.libraries.now) c.args.self.now.tables.now c.args.self.now.by _ c.args.number None c.in_err-module.ensures

pub returns-in_err-cell : goal.returns-in_err-cell
returns-in_err-cell g c = ap (option_map place_of) c.from_residual-in_err-cell.ensures ∙ cell_in (g.L.Libraries.libs c.args.self.now.libraries.now) c.args.self.now.tables.now c.args.self.now.by _ c.args.number c.in_ok-module.module _ c.in_ok-module.ensures c.in_err-cell.ensures

pub returns : goal.returns
returns g c = cell_in (g.L.Libraries.libs c.args.self.now.libraries.now) c.args.self.now.tables.now c.args.self.now.by _ c.args.number c.in_ok-module.module _ c.in_ok-module.ensures c.in_ok-cell.ensures
