use Rattle.std.proofs.Common.{◌≡◌, drop}
use Rattle.links.specs.Scope.{global_members}
use Rattle.linkage.specs.Tables.{links_of}
use Rattle.scopes.specs.Looks.{looked}
use Rattle.scopes.proofs.search.Search.in_globals.Given as goal

abbrev pub invariant-loop-n : goal.invariant-loop-n
invariant-loop-n g l = looked (g.L.Libraries.libs l.self.libraries.now) l.self (global_members (drop l.n (links_of (g.L.Libraries.libs l.self.libraries.now) l.self.tables.now).groups)) ≡ looked (g.L.Libraries.libs l.self.libraries.now) l.self (global_members (links_of (g.L.Libraries.libs l.self.libraries.now) l.self.tables.now).groups)
