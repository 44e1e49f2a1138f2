use Rattle.library.proofs.Distinct.{reads_once}
use Rattle.library.proofs.reads_once.Goals as goal

pub returns : goal.returns
returns c = reads_once
