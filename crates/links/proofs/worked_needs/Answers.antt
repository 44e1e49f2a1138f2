use Rattle.links.proofs.Cases.{worked_needs}
use Rattle.links.proofs.worked_needs.Goals as goal

pub returns : goal.returns
returns c = worked_needs
