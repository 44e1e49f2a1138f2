use Rattle.std.proofs.Common.{ap, ◌∙◌}
use Rattle.lent.proofs.Rows.{rows_take}
use Rattle.lent.proofs.table.Table.truncate.Goals as goal
use Rattle.lent.specs.Tables.{rows_of}

pub returns-clause-rows : goal.returns-clause-rows
returns-clause-rows g c =
    let n = c.args.self.now.len in
    let ws = c.args.self.now.words.now in
    ap (rows_of g.row.W ws) c.min-self.ensures ∙ rows_take g.row.W ws n c.args.n
