use Rattle.simulation.proofs.Addresses.{cells_apart}
use Rattle.simulation.proofs.cells_apart.Goals as goal

pub returns : goal.returns
returns c = cells_apart
