use Rattle.std.proofs.Common.{◌≡◌, ◌+◌, ◌-◌}
use Rattle.lent.specs.Numbers.{numbers, limit}
use Rattle.lent.specs.Tables.{rows_in}
use Rattle.links.specs.Close.{hosts}
use Rattle.linkage.specs.Tables.{bindings_from}
use Rattle.closes.specs.Staying.{gathered}
use Rattle.closes.proofs.staying.keep_hosts.Given as goal

abbrev pub invariant-loop-address : goal.invariant-loop-address
invariant-loop-address l = record {
  so_far : gathered (limit l.initial.stays) (hosts (bindings_from (rows_in 2 l.tables.bindings) l.address (l.base + l.cells - l.address))) (numbers l.stays) ≡ gathered (limit l.initial.stays) (hosts (bindings_from (rows_in 2 l.tables.bindings) l.base l.cells)) (numbers l.initial.stays);
  taken : l.stays.taken ≡ l.initial.stays.taken;
  limit : limit l.stays ≡ limit l.initial.stays;
}
