use Rattle.links.proofs.Opens.{load_opens}
use Rattle.links.proofs.load_opens.Goals as goal

pub returns : goal.returns
returns c = load_opens
