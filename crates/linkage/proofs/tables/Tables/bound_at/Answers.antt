use Rattle.std.proofs.Common.{sym, ap, ◌∙◌, arith}
use Rattle.std.specs.Option.{option_map}
use Rattle.lent.specs.Tables.{rows_in}
use Rattle.linkage.specs.Views.{place_of}
use Rattle.linkage.proofs.Bound.{bound_past, bound_nothing, bound_place}
use Rattle.linkage.proofs.tables.Tables.bound_at.Goals as goal

pub returns-in_err-row : goal.returns-in_err-row
returns-in_err-row c = ap (option_map place_of) c.from_residual.ensures ∙ bound_past (rows_in 2 c.args.self.now.bindings) c.args.address c.in_err-row.ensures.value

pub returns-in_err-checked_sub : goal.returns-in_err-checked_sub
returns-in_err-checked_sub c =
    ap (option_map place_of) c.from_residual-in_err-checked_sub.ensures
    ∙ bound_nothing (rows_in 2 c.args.self.now.bindings) c.args.address c.in_ok-row.row.now c.in_ok-row.ensures.value (sym c.word.ensures ∙ omega (arith, c.in_err-checked_sub.ensures))

pub returns : goal.returns
returns c = bound_place (rows_in 2 c.args.self.now.bindings) c.args.address c.in_ok-checked_sub.field-0 c.word-2.result c.in_ok-row.row.now c.in_ok-row.ensures.value
    (sym c.word.ensures ∙ omega (arith, c.in_ok-checked_sub.ensures)) c.word-2.ensures
