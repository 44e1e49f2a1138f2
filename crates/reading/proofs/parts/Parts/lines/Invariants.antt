use Rattle.std.specs.Iterator.Adapters.{zip_first, zip_second}
use Rattle.reading.proofs.Going.{Going}
use Rattle.reading.proofs.parts.Parts.lines.Given as goal

abbrev pub invariant-loop-number : goal.invariant-loop-number
invariant-loop-number l = Going l.self (zip_first l.number-iterator).start l.held (zip_second l.number-iterator).0 l.initial.self.tables.text.now
