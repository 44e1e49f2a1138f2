use Rattle.std.proofs.Common.{sym, ◌∙◌}
use Rattle.std.proofs.lemmas.Bool.{le-ltb}
use Rattle.lent.specs.Numbers.{numbers}
use Rattle.lent.proofs.Marks.{has_past}
use Rattle.lent.proofs.once.Once.contains.Goals as goal

pub returns-else-number-self : goal.returns-else-number-self
returns-else-number-self c = le-ltb _ _ c.if-number-self.false ∙ sym (has_past (numbers c.args.self.now) _ c.args.number c.args.self.now.below c.if-number-self.false)
