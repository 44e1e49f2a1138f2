use Rattle.meaning.proofs.Same.{same_end}
use Rattle.meaning.proofs.same_end.Goals as goal

pub returns : goal.returns
returns c = same_end
