use Rattle.libs.proofs.Joined.{same_line}
use Rattle.libs.proofs.sources.same_line.Goals as goal

pub returns : goal.returns
returns c = same_line
