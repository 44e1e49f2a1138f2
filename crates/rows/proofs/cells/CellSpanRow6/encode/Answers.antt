use Rattle.std.proofs.Common.{ap, ◌∙◌}
use Rattle.rows.specs.Rows.{cell_at}
use Rattle.rows.proofs.Back.{cell_back}
use Rattle.rows.proofs.cells.CellSpanRow6.encode.Goals as goal

pub returns : goal.returns
returns c t = ap (cell_at t) c.words_of.ensures.row ∙ cell_back t c.args.self c.words_of.ensures.small
