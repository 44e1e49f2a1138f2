use Rattle.meaning.proofs.Grows.{shown_grows}
use Rattle.meaning.proofs.shown_grows.Goals as goal

pub returns : goal.returns
returns c = shown_grows
