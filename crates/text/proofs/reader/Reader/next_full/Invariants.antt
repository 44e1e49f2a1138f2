use Rattle.std.proofs.Common.{◌≡◌}
use Rattle.text.specs.Words.{full}
use Rattle.text.specs.Readers.{pieces, size}
use Rattle.text.proofs.reader.Reader.next_full.Given as goal

abbrev pub invariant-loop-piece : goal.invariant-loop-piece
invariant-loop-piece l = (full (pieces l.end l.self) ≡ full (pieces l.end l.initial.self)) × (l.self.text.now ≡ l.initial.self.text.now)

abbrev pub decreases-loop-piece : goal.decreases-loop-piece
decreases-loop-piece l = size l.self
