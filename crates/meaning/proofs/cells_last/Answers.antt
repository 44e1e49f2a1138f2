use Rattle.meaning.proofs.Lasts.{cells_last}
use Rattle.meaning.proofs.cells_last.Goals as goal

pub returns : goal.returns
returns c = cells_last
