use Rattle.std.proofs.Common.{sym, ap, ◌∙◌}
use Rattle.std.specs.Prelude.{not, ◌&&◌}
use Rattle.base.specs.Lists.{has}
use Rattle.lent.specs.Numbers.{numbers}
use Rattle.closes.proofs.Going.{live_here, live_nowhere}
use Rattle.closes.proofs.leaving.leaves.Goals as goal

pub returns-in_default : goal.returns-in_default
returns-in_default c ls = sym (ap (λ b. b && not (has c.args.id (numbers c.args.stays.now))) (live_nowhere ls c.args.tables.now c.args.id (sym c.in_default.is ∙ c.module.ensures)))

pub returns-then-module : goal.returns-then-module
returns-then-module c ls =
    let m = c.in-Some.«module» in
    ap not c.contains.ensures ∙ sym (ap (λ b. b && not (has c.args.id (numbers c.args.stays.now))) (live_here ls c.args.tables.now c.args.id m (sym c.in-Some.is ∙ c.module.ensures) ∙ c.if-module.true))

pub returns-else-module : goal.returns-else-module
returns-else-module c ls =
    let m = c.in-Some.«module» in
    c.if-module.false ∙ sym (ap (λ b. b && not (has c.args.id (numbers c.args.stays.now))) (live_here ls c.args.tables.now c.args.id m (sym c.in-Some.is ∙ c.module.ensures) ∙ c.if-module.false))
