use Rattle.reading.proofs.Linewise.{began}
use Rattle.reading.proofs.parts.Parts.lib_line.Goals as goal

pub returns-in-Ok : goal.returns-in-Ok
returns-in-Ok c = began c.args.self.now c.finish.new.self c.args.line.now.number c.args.held c.begin.result _ _ c.in_ok-finish.ensures c.in-Ok.ensures c.begin.ensures.draft c.begin.ensures.starts
