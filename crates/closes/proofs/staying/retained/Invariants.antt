use Rattle.std.proofs.Common.{◌≡◌, ◌-◌}
use Rattle.lent.specs.Numbers.{numbers, limit}
use Rattle.linkage.specs.Tables.{links_of}
use Rattle.closes.proofs.Growing.{Grows}
use Rattle.closes.proofs.staying.retained.Given as goal

abbrev pub invariant-loop-kept : goal.invariant-loop-kept
invariant-loop-kept g l = record {
  grows : Grows (links_of (g.L.Libraries.libs l.libraries) l.tables) l.stays.taken (numbers l.stays);
  limit : limit l.stays ≡ l.tables.modules.len;
}

abbrev pub decreases-loop-kept : goal.decreases-loop-kept
decreases-loop-kept g l = l.tables.modules.len - l.stays.taken
