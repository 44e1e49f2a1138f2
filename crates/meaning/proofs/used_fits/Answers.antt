use Rattle.meaning.proofs.Grows.{used_fits}
use Rattle.meaning.proofs.used_fits.Goals as goal

pub returns : goal.returns
returns c = used_fits
