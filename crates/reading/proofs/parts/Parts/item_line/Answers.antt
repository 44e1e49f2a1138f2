use Rattle.std.proofs.Common.{ap}
use Rattle.text.specs.Readers.{bytes}
use Rattle.lines.specs.Items.{item_of}
use Rattle.reading.proofs.Linewise.{itemed}
use Rattle.reading.proofs.parts.Parts.item_line.Goals as goal

pub returns-in_ok-sized-in-Ok : goal.returns-in_ok-sized-in-Ok
returns-in_ok-sized-in-Ok c = itemed c.args.self.now _ c.args.line.now.number c.args.draft c.put-next.result c.args.keyword.now _ _ _ c.requires.kept c.in-Ok.ensures (ap (λ t. item_of (bytes t) c.in-Ok.item) c.requires.text) c.put-next.ensures c.in_ok-sized-in-Ok.ensures
