use Rattle.simulation.proofs.Answers.{steps_counted}
use Rattle.simulation.proofs.steps_counted.Goals as goal

pub returns : goal.returns
returns c = steps_counted
