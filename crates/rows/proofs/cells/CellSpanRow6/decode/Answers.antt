use Rattle.std.proofs.Common.{rules}
use Rattle.rows.specs.Rows.{cell_at}
use Rattle.rows.proofs.cells.CellSpanRow6.decode.Goals as goal

pub returns-in-Some : goal.returns-in-Some
unfolding cell_at
returns-in-Some c = search rules

pub returns-in-None : goal.returns-in-None
unfolding cell_at
returns-in-None c = search rules
