use Rattle.std.proofs.Common.{◌≡◌, map}
use Rattle.std.specs.List.{between}
use Rattle.lent.specs.Tables.{rows_in}
use Rattle.linkage.specs.Tables.{group_of, number_in}
use Rattle.scopes.specs.Looks.{looked}
use Rattle.scopes.proofs.search.Search.in_members.Given as goal

abbrev pub invariant-loop-row : goal.invariant-loop-row
invariant-loop-row g l = looked (g.L.Libraries.libs l.self.libraries.now) l.self (map number_in (between l.row l.fn.group.end (rows_in 1 l.self.tables.now.members))) ≡ looked (g.L.Libraries.libs l.self.libraries.now) l.self (group_of l.self.tables.now l.fn.group).members
