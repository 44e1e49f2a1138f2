use Rattle.lent.proofs.index.Index.first.Goals as goal
use Rattle.lent.proofs.Newest.{is_newest}

pub returns-clause-newest : goal.returns-clause-newest
returns-clause-newest c = λ bs n x l. simp c.entry_at.ensures (is_newest bs c.args.h n _ (x.by_bucket c.args.h l))
