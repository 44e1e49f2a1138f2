use Rattle.std.proofs.Common.{ap, ◌∙◌}
use Rattle.std.specs.Option.{option_map}
use Rattle.linkage.specs.Views.{place_of}
use Rattle.scopes.proofs.Looking.{took, passed, group_next, group_past, groups_end}
use Rattle.scopes.proofs.search.Search.in_globals.Goals as goal

pub returns-in_err-group : goal.returns-in_err-group
returns-in_err-group g c = ap (option_map place_of) c.from_residual.ensures ∙ group_past (g.L.Libraries.libs c.args.self.now.libraries.now) c.args.self.now.tables.now _ _ c.loop-n.n _ c.in_err-group.ensures c.loop-n.invariant

pub returns-then-is_some : goal.returns-then-is_some
returns-then-is_some g c = took place_of c.in_shared-place.result _ _ _ c.is_some.result c.in_shared-place.ensures c.is_some.ensures c.if-is_some.true (group_next (g.L.Libraries.libs c.args.self.now.libraries.now) c.args.self.now.tables.now _ _ c.loop-n.n c.in_ok-group.field-0 _ c.in_ok-group.ensures c.loop-n.invariant)

pub loop-n-preserved : goal.loop-n-preserved
loop-n-preserved g c = passed place_of c.in_shared-place.result _ _ _ c.is_some.result c.in_shared-place.ensures c.is_some.ensures c.if-is_some.false (group_next (g.L.Libraries.libs c.args.self.now.libraries.now) c.args.self.now.tables.now _ _ c.loop-n.n c.in_ok-group.field-0 _ c.in_ok-group.ensures c.loop-n.invariant)

pub returns : goal.returns
returns g c = groups_end (g.L.Libraries.libs c.args.self.now.libraries.now) c.args.self.now.tables.now _ _ c.loop-n.n _ c.loop-n-test.false c.loop-n.invariant
