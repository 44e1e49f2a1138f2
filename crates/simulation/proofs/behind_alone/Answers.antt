use Rattle.simulation.proofs.Addresses.{behind_alone}
use Rattle.simulation.proofs.behind_alone.Goals as goal

pub returns : goal.returns
returns c = behind_alone
