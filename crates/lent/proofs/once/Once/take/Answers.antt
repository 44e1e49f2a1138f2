use Rattle.lent.proofs.Marks.{below_at, taken_lt}
use Rattle.lent.proofs.once.Once.take.Goals as goal

pub returns-clause-below : goal.returns-clause-below
returns-clause-below c = let s = c.args.self.now in (below_at s.words.now s.len _ s.taken s.within s.below c.if-self.false, taken_lt s.marks.now s.len s.taken s.counted c.if-self.false)
