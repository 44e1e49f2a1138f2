use Rattle.std.proofs.Common.{sym, arith}
use Rattle.lent.proofs.Rows.{rows_slice_get, rows_past}
use Rattle.lent.proofs.table.Table.row.Goals as goal

pub returns-then-i-self-clause-value : goal.returns-then-i-self-clause-value
returns-then-i-self-clause-value g c = sym (rows_past g.row.W c.args.self.now.words.now c.args.self.now.len c.args.i (omega arith))

pub returns-clause-value : goal.returns-clause-value
returns-clause-value g c = sym (rows_slice_get g.row.W c.args.self.now.words.now c.args.self.now.len c.args.i (omega arith))
