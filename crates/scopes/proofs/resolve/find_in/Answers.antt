use Rattle.std.proofs.Common.{ap, ◌∙◌}
use Rattle.std.specs.Prelude.{None, Some}
use Rattle.std.specs.Option.{option_map}
use Rattle.linkage.specs.Views.{place_of}
use Rattle.scopes.proofs.Looking.{found_is}
use Rattle.scopes.proofs.resolve.find_in.Goals as goal

pub returns-in_err-found : goal.returns-in_err-found
returns-in_err-found g c = ap (option_map place_of) c.from_residual.ensures ∙ found_is (g.L.Libraries.libs c.args.libraries.now) c.args.tables.now c.args.group c.args.name.now None c.in_err-found.ensures

pub returns : goal.returns
returns g c = c.in_members.ensures ∙ found_is (g.L.Libraries.libs c.args.libraries.now) c.args.tables.now c.args.group c.args.name.now (Some c.in_ok-found.found) c.in_ok-found.ensures
