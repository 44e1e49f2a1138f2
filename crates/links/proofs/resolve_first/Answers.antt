use Rattle.links.proofs.Resolved.{resolve_first}
use Rattle.links.proofs.resolve_first.Goals as goal

pub returns : goal.returns
returns c = resolve_first
