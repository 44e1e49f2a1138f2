use Rattle.std.proofs.Common.{ap, ◌∙◌}
use Rattle.std.specs.Option.{option_map}
use Rattle.lent.specs.Tables.{rows_in}
use Rattle.linkage.specs.Views.{place_of}
use Rattle.scopes.proofs.Looking.{took, passed, member_next, member_past}
use Rattle.scopes.proofs.search.Search.in_members.Goals as goal

pub returns-in_err-member : goal.returns-in_err-member
returns-in_err-member g c = ap (option_map place_of) c.from_residual.ensures ∙ member_past _ _ _ (rows_in 1 c.args.self.now.tables.now.members) c.loop-row.row c.args.group.end _ c.in_err-member.ensures c.loop-row.invariant

pub returns-then-is_some : goal.returns-then-is_some
returns-then-is_some g c = took place_of c.in_module-place.result _ _ _ c.is_some.result c.in_module-place.ensures c.is_some.ensures c.if-is_some.true (member_next _ _ _ (rows_in 1 c.args.self.now.tables.now.members) c.loop-row.row c.args.group.end c.in_ok-member.field-0 _ c.loop-row-test.true c.in_ok-member.ensures c.loop-row.invariant)

pub loop-row-preserved : goal.loop-row-preserved
loop-row-preserved g c = passed place_of c.in_module-place.result _ _ _ c.is_some.result c.in_module-place.ensures c.is_some.ensures c.if-is_some.false (member_next _ _ _ (rows_in 1 c.args.self.now.tables.now.members) c.loop-row.row c.args.group.end c.in_ok-member.field-0 _ c.loop-row-test.true c.in_ok-member.ensures c.loop-row.invariant)
