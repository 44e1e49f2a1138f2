use Rattle.lent.proofs.Rows.{rows_none}
use Rattle.lent.proofs.table.Table.new.Goals as goal

pub returns-clause-rows : goal.returns-clause-rows
returns-clause-rows g c = rows_none g.row.W c.args.words.now
