use Rattle.std.proofs.Common.{length}
use Rattle.tables.specs.Store.{libraries}
use Rattle.tables.proofs.Walks.{Passed, left}
use Rattle.tables.proofs.tables.Tables.find.Given as goal

abbrev pub invariant-loop-at : goal.invariant-loop-at
invariant-loop-at l = Passed (libraries l.self) l.name (length l.names.heads.now) l.at

abbrev pub decreases-loop-at : goal.decreases-loop-at
decreases-loop-at l = left l.at
