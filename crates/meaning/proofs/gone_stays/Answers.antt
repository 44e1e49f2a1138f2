use Rattle.meaning.proofs.Lasts.{gone_stays}
use Rattle.meaning.proofs.gone_stays.Goals as goal

pub returns : goal.returns
returns c = gone_stays
