use Rattle.std.proofs.Common.{◌≡◌, List, drop}
use Rattle.library.specs.Library.{Library}
use Rattle.lent.specs.Numbers.{numbers, limit}
use Rattle.links.specs.Close.{open_members}
use Rattle.linkage.specs.Tables.{links_of}
use Rattle.closes.specs.Staying.{gathered}
use Rattle.closes.proofs.staying.keep_open.Given as goal

abbrev pub invariant-loop-group : goal.invariant-loop-group
invariant-loop-group l = record {
  so_far : (ls : List Library) → gathered (limit l.initial.stays) (open_members (drop l.group (links_of ls l.tables).groups)) (numbers l.stays) ≡ gathered (limit l.initial.stays) (open_members (links_of ls l.tables).groups) (numbers l.initial.stays);
  taken : l.stays.taken ≡ l.initial.stays.taken;
  limit : limit l.stays ≡ limit l.initial.stays;
}
