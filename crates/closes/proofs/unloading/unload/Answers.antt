use Rattle.std.proofs.Common.{◌<◌, ◌≤◌, length, ◌∙◌, not, arith}
use Rattle.base.specs.Lists.{has}
use Rattle.lent.specs.Numbers.{numbers}
use Rattle.linkage.specs.Tables.{links_of}
use Rattle.lent.specs.Tables.{column}
use Rattle.closes.proofs.Going.{column_count}
use Rattle.closes.proofs.Gone.{gone_on, gone_end, gone_leave}
use Rattle.closes.proofs.unloading.unload.Goals as goal

pub loop-row-preserved : goal.loop-row-preserved
loop-row-preserved c ls =
    let here : c.loop-row.row < length (column c.args.going.now) = omega (arith, column_count c.args.going.now, c.loop-row-test.true) in
    gone_on (λ j. not (has j (numbers c.args.stays.now))) (column c.args.going.now) c.loop-row.row (links_of ls c.loop-row.tables) (links_of ls c.unload_row.new.tables) _ here (c.unload_row.ensures ls) (c.loop-row.invariant ls)

pub returns : goal.returns
returns c ls s o =
    let past : length (column c.args.going.now) ≤ c.loop-row.row = omega (arith, column_count c.args.going.now, c.loop-row-test.false) in
    gone_end (λ j. not (has j (numbers c.args.stays.now))) (column c.args.going.now) c.loop-row.row (links_of ls c.loop-row.tables) _ past (c.loop-row.invariant ls)
    ∙ gone_leave (links_of ls c.args.tables.now) (numbers c.args.stays.now) (column c.args.going.now) s o
