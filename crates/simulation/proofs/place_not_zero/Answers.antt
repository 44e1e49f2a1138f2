use Rattle.simulation.proofs.Addresses.{place_not_0}
use Rattle.simulation.proofs.place_not_zero.Goals as goal

pub returns : goal.returns
returns c = place_not_0
