use Rattle.std.proofs.Common.{arith}
use Rattle.tables.specs.Store.{store}
use Rattle.tables.proofs.Drafting.{cells_counted, checked_ok, checked_err}
use Rattle.tables.proofs.tables.Tables.checked.Goals as goal

pub returns-then-draft-saturating_sub : goal.returns-then-draft-saturating_sub
returns-then-draft-saturating_sub c = checked_ok (store c.args.self.now) c.args.draft _ _ (cells_counted c.args.self.now) c.saturating_sub.ensures c.if-draft-saturating_sub.true

pub returns : goal.returns
returns c = checked_err (store c.args.self.now) c.args.draft _ _ (cells_counted c.args.self.now) c.saturating_sub.ensures (omega (arith, c.if-draft-saturating_sub.false))
