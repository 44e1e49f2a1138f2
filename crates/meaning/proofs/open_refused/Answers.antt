use Rattle.meaning.proofs.Grows.{open_refused}
use Rattle.meaning.proofs.open_refused.Goals as goal

pub returns : goal.returns
returns c = open_refused
