use Rattle.std.proofs.Common.{◌≡◌, ◌<◌, ◌≤◌, List, [], length, sym, ap, ◌∙◌, arith}
use Rattle.std.proofs.lemmas.List.{length-map}
use Rattle.library.specs.Library.{Library}
use Rattle.lent.specs.Numbers.{numbers, limit}
use Rattle.lent.specs.Tables.{rows_in}
use Rattle.lent.proofs.Rows.{rows_len}
use Rattle.linkage.specs.Rows.{group_at}
use Rattle.linkage.specs.Tables.{links_of, group_of}
use Rattle.linkage.specs.declared.tables.Tables.{Tables}
use Rattle.closes.specs.Staying.{gathered, open_at}
use Rattle.closes.proofs.Rows.{groups_next, groups_end}
use Rattle.closes.proofs.staying.keep_open.Goals as goal

groups_count : (ls : List Library) (t : Tables) → length (links_of ls t).groups ≡ t.groups.len
groups_count ls t = length-map (rows_in 3 t.groups) (λ r. group_of t (group_at r)) ∙ rows_len 3 t.groups.words.now t.groups.len

pub loop-group-preserved : goal.loop-group-preserved
loop-group-preserved c = record {
  so_far = λ ls.
      let gs = (links_of ls c.args.tables.now).groups in
      let here : c.loop-group.group < length gs = omega (arith, groups_count ls c.args.tables.now, c.loop-group-test.true) in
      groups_next gs c.loop-group.group (limit c.args.stays.now) (numbers c.loop-group.stays) (numbers c.keep_group.new.stays) here
      ((c.keep_group.ensures ls).numbers ∙ ap (λ n. gathered n (open_at gs c.loop-group.group) (numbers c.loop-group.stays)) c.loop-group.invariant.limit)
      ∙ c.loop-group.invariant.so_far ls;
  taken = (c.keep_group.ensures []).taken ∙ c.loop-group.invariant.taken;
  limit = (c.keep_group.ensures []).limit ∙ c.loop-group.invariant.limit;
}

pub returns : goal.returns
returns c ls =
    let gs = (links_of ls c.args.tables.now).groups in
    let past : length gs ≤ c.loop-group.group = omega (arith, groups_count ls c.args.tables.now, c.loop-group-test.false) in
    record {
      numbers = sym (groups_end gs c.loop-group.group (limit c.args.stays.now) (numbers c.loop-group.stays) past) ∙ c.loop-group.invariant.so_far ls;
      limit = c.loop-group.invariant.limit;
      taken = c.loop-group.invariant.taken;
    }
