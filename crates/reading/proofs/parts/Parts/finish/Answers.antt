use Rattle.reading.proofs.Linewise.{finish_some}
use Rattle.reading.proofs.parts.Parts.finish.Goals as goal

pub returns : goal.returns
returns c = finish_some c.args.self.now c.close.new.self c.args.held c.in-Some.draft c.in-Some.is c.in_ok-checked.ensures c.close.ensures
