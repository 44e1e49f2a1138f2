use Rattle.simulation.proofs.Addresses.{stores_own}
use Rattle.simulation.proofs.stores_own.Goals as goal

pub returns : goal.returns
returns c = stores_own
