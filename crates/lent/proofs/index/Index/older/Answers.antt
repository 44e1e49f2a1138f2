use Rattle.std.proofs.Common.{ap, ◌∙◌}
use Rattle.lent.proofs.index.Index.older.Goals as goal
use Rattle.lent.proofs.Newest.{is_newest}
use Rattle.lent.specs.Indexes.{newest}

pub returns-clause-newest : goal.returns-clause-newest
returns-clause-newest c = λ bs n h x l e. simp c.entry_at.ensures (is_newest bs h c.args.k _ (x.by_entry c.args.k l ∙ ap (λ g. newest bs g c.args.k) e))
