use Rattle.std.proofs.Common.{arith}
use Rattle.tables.specs.Store.{store}
use Rattle.tables.proofs.Drafting.{cells_counted, sized_ok, sized_err}
use Rattle.tables.proofs.tables.Tables.sized.Goals as goal

pub returns-then-saturating_sub-le-MAX_CELLS : goal.returns-then-saturating_sub-le-MAX_CELLS
returns-then-saturating_sub-le-MAX_CELLS c = sized_ok (store c.args.self.now) c.args.draft c.args.line _ _ (cells_counted c.args.self.now) c.saturating_sub.ensures c.if-saturating_sub-le-MAX_CELLS.true

pub returns : goal.returns
returns c = sized_err (store c.args.self.now) c.args.draft c.args.line _ _ (cells_counted c.args.self.now) c.saturating_sub.ensures (omega (arith, c.if-saturating_sub-le-MAX_CELLS.false))
