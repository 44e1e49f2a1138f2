use Rattle.std.specs.Prelude.{None, Some}
use Rattle.linkage.specs.Tables.{links_of}
use Rattle.refs.proofs.Missing.{first_is, all_where_none}
use Rattle.refs.proofs.unmet.unmet.Goals as goal

pub returns-in_err-module-clause-first : goal.returns-in_err-module-clause-first
returns-in_err-module-clause-first g c = first_is (g.L.Libraries.libs c.args.libraries.now) c.args.tables.now c.args.me None c.from_residual.result c.in_err-module.ensures c.from_residual.ensures

pub returns-in_err-module-clause-met : goal.returns-in_err-module-clause-met
returns-in_err-module-clause-met g c = all_where_none (links_of (g.L.Libraries.libs c.args.libraries.now) c.args.tables.now) c.args.me c.from_residual.result (returns-in_err-module-clause-first g c)

pub returns-clause-first : goal.returns-clause-first
returns-clause-first g c = first_is (g.L.Libraries.libs c.args.libraries.now) c.args.tables.now c.args.me (Some c.in_ok-module.«module») c.unmet_in.result c.in_ok-module.ensures c.unmet_in.ensures

pub returns-clause-met : goal.returns-clause-met
returns-clause-met g c = all_where_none (links_of (g.L.Libraries.libs c.args.libraries.now) c.args.tables.now) c.args.me c.unmet_in.result (returns-clause-first g c)
