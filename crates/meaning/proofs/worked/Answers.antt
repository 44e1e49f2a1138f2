use Rattle.meaning.proofs.Cases.{worked}
use Rattle.meaning.proofs.worked.Goals as goal

pub returns : goal.returns
returns c = worked
