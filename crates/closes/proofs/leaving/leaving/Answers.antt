use Rattle.std.proofs.Common.{◌≡◌, ◌<◌, ◌≤◌, List, length, sym, ap, ◌∙◌, arith}
use Rattle.std.proofs.lemmas.Bool.{le-leb, lt-leb}
use Rattle.std.proofs.lemmas.List.{length-map}
use Rattle.library.specs.Library.{Library}
use Rattle.lent.specs.Numbers.{numbers}
use Rattle.lent.specs.Tables.{rows_in, column}
use Rattle.lent.proofs.Rows.{rows_len}
use Rattle.linkage.specs.Tables.{links_of, number_in}
use Rattle.linkage.specs.declared.tables.Tables.{Tables}
use Rattle.closes.specs.Leaving.{goes, leavers}
use Rattle.closes.proofs.Going.{leavers_on, leavers_end, leavers_full, leavers_leave, column_count, refused}
use Rattle.closes.proofs.leaving.leaving.Goals as goal

order_count : (ls : List Library) (t : Tables) → length (links_of ls t).order ≡ t.order.len
order_count ls t = length-map (rows_in 1 t.order) number_in ∙ rows_len 1 t.order.words.now t.order.len

pub loop-row-preserved : goal.loop-row-preserved
loop-row-preserved c = record {
  so_far = λ ls.
      let k = links_of ls c.args.tables.now in
      let here : c.loop-row.row < length k.order = omega (arith, order_count ls c.args.tables.now, c.loop-row-test.true) in
      leavers_on (goes k.modules (numbers c.args.stays.now)) k.order (column c.loop-row.left) (column c.leave.new.left) c.loop-row.row (leavers k (numbers c.args.stays.now)) here (c.in_ok-leave.ensures.column ls) (c.loop-row.invariant.so_far ls);
  size = c.in_ok-leave.ensures.size ∙ c.loop-row.invariant.size;
}

pub returns-in_err-leave-clause-room : goal.returns-in_err-leave-clause-room
returns-in_err-leave-clause-room c ls =
    let k = links_of ls c.args.tables.now in
    let here : c.loop-row.row < length k.order = omega (arith, order_count ls c.args.tables.now, c.loop-row-test.true) in
    let full = c.in_err-leave.ensures.column ls in
    let short : length c.args.words.now ≤ length (column c.loop-row.left) = omega (arith, full.0, column_count c.loop-row.left, c.loop-row.invariant.size) in
    let more = leavers_full (goes k.modules (numbers c.args.stays.now)) k.order (column c.loop-row.left) c.loop-row.row (length c.args.words.now) (leavers k (numbers c.args.stays.now)) here short full.1 (c.loop-row.invariant.so_far ls) in
    refused c.from_residual.result _ c.from_residual.ensures.1 ∙ sym (lt-leb _ _ more)

pub returns-clause-leavers : goal.returns-clause-leavers
returns-clause-leavers c ls =
    let k = links_of ls c.args.tables.now in
    let past : length k.order ≤ c.loop-row.row = omega (arith, order_count ls c.args.tables.now, c.loop-row-test.false) in
    leavers_end (goes k.modules (numbers c.args.stays.now)) k.order (column c.loop-row.left) c.loop-row.row (leavers k (numbers c.args.stays.now)) past (c.loop-row.invariant.so_far ls)

pub returns-clause-leaving : goal.returns-clause-leaving
returns-clause-leaving c ls s = returns-clause-leavers c ls ∙ leavers_leave (links_of ls c.args.tables.now) (numbers c.args.stays.now) s

pub returns-clause-room : goal.returns-clause-room
returns-clause-room c ls =
    let t = c.loop-row.left in
    sym (le-leb _ _ (omega (arith, t.fits, column_count t, ap length (returns-clause-leavers c ls), c.loop-row.invariant.size)))
