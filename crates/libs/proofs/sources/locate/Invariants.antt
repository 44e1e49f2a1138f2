use Rattle.std.proofs.Common.{◌≡◌, drop}
use Rattle.libs.specs.Places.{place}
use Rattle.libs.proofs.sources.locate.Given as goal

abbrev pub invariant-loop-file : goal.invariant-loop-file
invariant-loop-file l = place l.file (drop l.file l.counts) l.rest ≡ place 0 l.counts l.line
