use Rattle.std.proofs.Common.{◌≡◌, map}
use Rattle.std.specs.List.{between}
use Rattle.lent.specs.Numbers.{numbers, limit}
use Rattle.lent.specs.Tables.{rows_in}
use Rattle.linkage.specs.Tables.{number_in}
use Rattle.closes.specs.Staying.{gathered}
use Rattle.closes.proofs.staying.keep_members.Given as goal

abbrev pub invariant-loop-row : goal.invariant-loop-row
invariant-loop-row l = record {
  so_far : gathered (limit l.initial.stays) (map number_in (between l.row l.fn.end (rows_in 1 l.tables.members))) (numbers l.stays) ≡ gathered (limit l.initial.stays) (map number_in (between l.fn.first l.fn.end (rows_in 1 l.tables.members))) (numbers l.initial.stays);
  taken : l.stays.taken ≡ l.initial.stays.taken;
  limit : limit l.stays ≡ limit l.initial.stays;
}
