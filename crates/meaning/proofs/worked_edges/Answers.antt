use Rattle.meaning.proofs.Cases.{worked_edges}
use Rattle.meaning.proofs.worked_edges.Goals as goal

pub returns : goal.returns
returns c = worked_edges
