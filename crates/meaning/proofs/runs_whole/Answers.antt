use Rattle.meaning.proofs.Always.{runs_whole}
use Rattle.meaning.proofs.runs_whole.Goals as goal

pub returns : goal.returns
returns c = runs_whole
