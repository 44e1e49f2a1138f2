use Rattle.links.proofs.Reach.{closure_reaches}
use Rattle.links.proofs.closure_reaches.Goals as goal

pub returns : goal.returns
returns c = closure_reaches
