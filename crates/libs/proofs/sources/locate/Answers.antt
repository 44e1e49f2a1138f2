use Rattle.libs.proofs.Places.{placed, place_later, place_none}
use Rattle.libs.proofs.sources.locate.Goals as goal

pub returns-then-rest-count : goal.returns-then-rest-count
returns-then-rest-count c = placed c.args.counts.now c.loop-file.file c.loop-file.rest _ c.loop-file.invariant c.loop-file-test.true c.if-rest-count.true

pub loop-file-preserved : goal.loop-file-preserved
loop-file-preserved c = place_later c.args.counts.now c.loop-file.file c.loop-file.rest _ c.loop-file.invariant c.loop-file-test.true c.if-rest-count.false

pub returns : goal.returns
returns c = place_none c.args.counts.now c.loop-file.file c.loop-file.rest _ c.loop-file.invariant c.loop-file-test.false
