use Rattle.std.proofs.Common.{arith}
use Rattle.lent.proofs.index.Index.insert.Goals as goal
use Rattle.lent.proofs.Newest.{inserted, inserted_last}

pub returns-clause-indexed : goal.returns-clause-indexed
returns-clause-indexed c = λ bs. inserted c.args.self.now.heads.now c.args.self.now.next.now bs c.args.n c.args.h (omega arith) (omega arith)

pub returns-clause-grown : goal.returns-clause-grown
returns-clause-grown c = λ bs. inserted_last c.args.self.now.heads.now c.args.self.now.next.now bs c.args.n c.args.h (omega arith) (omega arith)
