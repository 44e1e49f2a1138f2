use Rattle.std.proofs.Common.{◌<◌, ◌≤◌, length, sym, ap, ◌∙◌, arith}
use Rattle.std.specs.Prelude.{min}
use Rattle.lent.specs.Numbers.{numbers, limit}
use Rattle.lent.specs.Tables.{rows_in}
use Rattle.lent.proofs.Rows.{rows_len}
use Rattle.closes.specs.Staying.{gathered, none_or_one}
use Rattle.closes.proofs.Rows.{members_next, members_end}
use Rattle.closes.proofs.staying.keep_members.Goals as goal

pub loop-row-preserved : goal.loop-row-preserved
loop-row-preserved c =
    let t = c.args.tables.now in
    let rs = rows_in 1 t.members in
    let here : c.loop-row.row < min c.args.end (length rs) = omega (arith, c.loop-row-test.true, c.min-row-end.ensures, rows_len 1 t.members.words.now t.members.len) in
    record {
      so_far = members_next rs c.loop-row.row c.args.end (limit c.args.stays.now) c.number.result (numbers c.loop-row.stays) (numbers c.keep.new.stays) here c.number.ensures
          (c.keep.ensures.numbers ∙ ap (λ n. gathered n (none_or_one c.number.result) (numbers c.loop-row.stays)) c.loop-row.invariant.limit)
          ∙ c.loop-row.invariant.so_far;
      taken = c.keep.ensures.taken ∙ c.loop-row.invariant.taken;
      limit = c.keep.ensures.limit ∙ c.loop-row.invariant.limit;
    }

pub returns : goal.returns
returns c =
    let t = c.args.tables.now in
    let rs = rows_in 1 t.members in
    let past : min c.args.end (length rs) ≤ c.loop-row.row = omega (arith, c.loop-row-test.false, c.min-row-end.ensures, rows_len 1 t.members.words.now t.members.len) in
    record {
      numbers = sym (members_end rs c.loop-row.row c.args.end (limit c.args.stays.now) (numbers c.loop-row.stays) past) ∙ c.loop-row.invariant.so_far;
      limit = c.loop-row.invariant.limit;
      taken = c.loop-row.invariant.taken;
    }
