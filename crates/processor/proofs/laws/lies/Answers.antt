use Rattle.processor.proofs.Laying.{lies}
use Rattle.processor.proofs.laws.lies.Goals as goal

pub returns : goal.returns
returns c = lies
