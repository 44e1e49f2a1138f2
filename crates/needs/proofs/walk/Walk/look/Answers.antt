use Rattle.std.proofs.Common.{◌+◌, [], ◌∷◌, ap, ◌∙◌}
use Rattle.std.specs.Prelude.{slice_set}
use Rattle.lent.specs.Tables.{rows_in}
use Rattle.needs.proofs.Rows.{entered_set}
use Rattle.needs.proofs.walk.Walk.look.Goals as goal

pub returns-clause-entered : goal.returns-clause-entered
returns-clause-entered c = entered_set c.args.self.now.entered c.set.new.self _ c.args.visit.library.0 (c.args.visit.looked + 1) (c.set.ensures.rows ∙ ap (λ m. slice_set (rows_in 2 c.args.self.now.entered) m (c.args.visit.library.0 ∷ (c.args.visit.looked + 1) ∷ [])) c.saturating_sub-last.ensures)
