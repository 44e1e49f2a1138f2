use Rattle.meaning.proofs.Grows.{used_grows}
use Rattle.meaning.proofs.used_grows.Goals as goal

pub returns : goal.returns
returns c = used_grows
