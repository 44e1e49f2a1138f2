use Rattle.links.proofs.Whole.{keeps_whole}
use Rattle.links.proofs.keeps_whole.Goals as goal

pub returns : goal.returns
returns c = keeps_whole
