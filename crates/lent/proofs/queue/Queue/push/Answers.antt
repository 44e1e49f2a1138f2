use Rattle.std.proofs.Common.{arith}
use Rattle.lent.proofs.Queues.{pushed}
use Rattle.lent.proofs.queue.Queue.push.Goals as goal

pub returns-clause-items : goal.returns-clause-items
returns-clause-items c = pushed c.args.self.now.words.now c.args.self.now.head c.args.self.now.tail c.args.x (omega arith) (omega arith)
