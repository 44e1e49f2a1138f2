use Rattle.std.proofs.Common.{ap, ◌∙◌}
use Rattle.std.specs.Prelude.{None, Some}
use Rattle.std.specs.Option.{option_map}
use Rattle.linkage.specs.Views.{place_of}
use Rattle.scopes.proofs.Looking.{took, passed, resolve_is}
use Rattle.scopes.proofs.resolve.resolve.Goals as goal

pub returns-in_err-load : goal.returns-in_err-load
returns-in_err-load g c = ap (option_map place_of) c.from_residual.ensures ∙ resolve_is (g.L.Libraries.libs c.args.libraries.now) c.args.tables.now c.args.me _ None c.in_err-load.ensures

pub returns-then-is_some : goal.returns-then-is_some
returns-then-is_some g c =
    let parts = resolve_is (g.L.Libraries.libs c.args.libraries.now) c.args.tables.now c.args.me _ (Some c.in_ok-load.field-0) c.in_ok-load.ensures in
    took place_of c.in_itself-own.result _ _ _ c.is_some.result c.in_itself-own.ensures c.is_some.ensures c.if-is_some.true parts

pub returns-then-is_some-2 : goal.returns-then-is_some-2
returns-then-is_some-2 g c =
    let parts = resolve_is (g.L.Libraries.libs c.args.libraries.now) c.args.tables.now c.args.me _ (Some c.in_ok-load.field-0) c.in_ok-load.ensures in
    let rest = passed place_of c.in_itself-own.result _ _ _ c.is_some.result c.in_itself-own.ensures c.is_some.ensures c.if-is_some.false parts in
    took place_of c.in_globals-shared.result _ _ _ c.is_some-2.result c.in_globals-shared.ensures c.is_some-2.ensures c.if-is_some-2.true rest

pub returns : goal.returns
returns g c =
    let parts = resolve_is (g.L.Libraries.libs c.args.libraries.now) c.args.tables.now c.args.me _ (Some c.in_ok-load.field-0) c.in_ok-load.ensures in
    let rest = passed place_of c.in_itself-own.result _ _ _ c.is_some.result c.in_itself-own.ensures c.is_some.ensures c.if-is_some.false parts in
    c.in_group.ensures ∙ passed place_of c.in_globals-shared.result _ _ _ c.is_some-2.result c.in_globals-shared.ensures c.is_some-2.ensures c.if-is_some-2.false rest
