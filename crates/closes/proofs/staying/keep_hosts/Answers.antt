use Rattle.std.proofs.Common.{◌+◌, ◌≤◌, length, sym, ap, ◌∙◌, arith}
use Rattle.std.specs.Prelude.{min}
use Rattle.lent.specs.Numbers.{numbers, limit}
use Rattle.lent.specs.Tables.{rows_in}
use Rattle.lent.proofs.Rows.{rows_len}
use Rattle.closes.specs.Staying.{gathered, none_or_one}
use Rattle.closes.proofs.Rows.{hosts_on, hosts_end}
use Rattle.closes.proofs.staying.keep_hosts.Goals as goal

pub loop-address-preserved : goal.loop-address-preserved
loop-address-preserved c = record {
  so_far = hosts_on (rows_in 2 c.args.tables.now.bindings) c.loop-address.address (c.args.base + c.args.cells) (limit c.args.stays.now) c.host_at.result (numbers c.loop-address.stays) (numbers c.keep.new.stays)
      (omega (arith, c.loop-address-test.true, c.min-end.ensures, c.saturating_add.ensures))
      c.host_at.ensures
      (c.keep.ensures.numbers ∙ ap (λ n. gathered n (none_or_one c.host_at.result) (numbers c.loop-address.stays)) c.loop-address.invariant.limit)
      ∙ c.loop-address.invariant.so_far;
  taken = c.keep.ensures.taken ∙ c.loop-address.invariant.taken;
  limit = c.keep.ensures.limit ∙ c.loop-address.invariant.limit;
}

pub returns : goal.returns
returns c =
    let t = c.args.tables.now in
    let count = rows_len 2 t.bindings.words.now t.bindings.len in
    let past : min (c.args.base + c.args.cells) (length (rows_in 2 t.bindings)) ≤ c.loop-address.address = omega (arith, count, t.bindings.fits, c.loop-address-test.false, c.min-end.ensures, c.saturating_add.ensures) in
    record {
      numbers = sym (hosts_end (rows_in 2 t.bindings) c.loop-address.address (c.args.base + c.args.cells) (limit c.args.stays.now) (numbers c.loop-address.stays) past) ∙ c.loop-address.invariant.so_far;
      limit = c.loop-address.invariant.limit;
      taken = c.loop-address.invariant.taken;
    }
