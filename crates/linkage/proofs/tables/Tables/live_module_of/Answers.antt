use Rattle.std.proofs.Common.{rules, Some}
use Rattle.linkage.proofs.Live.{live_named}
use Rattle.linkage.proofs.tables.Tables.live_module_of.Goals as goal

pub returns-in_err-module-clause-named : goal.returns-in_err-module-clause-named
returns-in_err-module-clause-named c ls x d h e = live_named ls c.args.self.now c.args.library.0 x c.from_residual.result (λ i. search rules) d h e

pub returns-in_err-filter-clause-named : goal.returns-in_err-filter-clause-named
returns-in_err-filter-clause-named c ls x d h e = live_named ls c.args.self.now c.args.library.0 x c.from_residual-in_err-filter.result (λ i. search rules) d h e

pub returns-clause-named : goal.returns-clause-named
returns-clause-named c ls x d h e = live_named ls c.args.self.now c.args.library.0 x (Some c.in_ok-module.module) (λ i. search rules) d h e
