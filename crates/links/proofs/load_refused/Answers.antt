use Rattle.links.proofs.Refused.{load_refused}
use Rattle.links.proofs.load_refused.Goals as goal

pub returns : goal.returns
returns c = load_refused
