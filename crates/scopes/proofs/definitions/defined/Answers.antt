use Rattle.scopes.proofs.Looking.{def_found, def_on}
use Rattle.scopes.proofs.definitions.defined.Goals as goal

pub returns-then-matches : goal.returns-then-matches
returns-then-matches g c = def_found (g.L.Libraries.libs c.args.libraries.now) c.args.library.0 c.loop-i.i c.args.mine _ _ c.matches.result _ c.in_ok-definition.ensures c.matches.ensures c.if-matches.true c.loop-i.invariant

pub loop-i-preserved : goal.loop-i-preserved
loop-i-preserved g c = def_on (g.L.Libraries.libs c.args.libraries.now) c.args.library.0 c.loop-i.i c.args.mine _ _ c.matches.result _ c.in_ok-definition.ensures c.matches.ensures c.if-matches.false c.loop-i.invariant
