use Rattle.std.proofs.Common.{◌++◌, sym, ap, ◌∙◌}
use Rattle.std.proofs.lemmas.List.{append-nil}
use Rattle.std.proofs.lemmas.Option.{slice_get-map}
use Rattle.lent.specs.Numbers.{numbers}
use Rattle.lent.specs.Tables.{rows_in, column}
use Rattle.linkage.specs.Tables.{links_of, number_in}
use Rattle.closes.specs.Leaving.{goes}
use Rattle.closes.proofs.Going.{kept_none, kept_one, pushed}
use Rattle.closes.proofs.leaving.leave.Goals as goal

pub returns-then-not-leaves-clause-column : goal.returns-then-not-leaves-clause-column
returns-then-not-leaves-clause-column c ls =
    let t = c.args.tables.now in
    let here = slice_get-map number_in (rows_in 1 t.order) c.args.row ∙ sym c.number.ensures ∙ c.in-Some.is in
    let out = sym (c.leaves.ensures ls) ∙ c.if-not-leaves.true in
    sym (ap (λ ys. column c.args.left.now ++ ys) (kept_none (goes (links_of ls t).modules (numbers c.args.stays.now)) _ c.in-Some.id here out) ∙ append-nil (column c.args.left.now))

pub returns-clause-column : goal.returns-clause-column
returns-clause-column c ls =
    let t = c.args.tables.now in
    let here = slice_get-map number_in (rows_in 1 t.order) c.args.row ∙ sym c.number.ensures ∙ c.in-Some.is in
    let out = sym (c.leaves.ensures ls) ∙ c.if-not-leaves.false in
    pushed c.args.left.now c.push.new.self c.push.result c.in-Some.id _ c.push.ensures.room c.push.ensures.rows (kept_one (goes (links_of ls t).modules (numbers c.args.stays.now)) _ c.in-Some.id here out)
