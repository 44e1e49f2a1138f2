use Rattle.links.proofs.Whole.{stays_least}
use Rattle.links.proofs.stays_least.Goals as goal

pub returns : goal.returns
returns c = stays_least
