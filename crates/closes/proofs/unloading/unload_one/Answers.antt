use Rattle.std.proofs.Common.{sym, ap, ◌∙◌}
use Rattle.links.specs.Links.{with_modules}
use Rattle.linkage.specs.Tables.{links_of}
use Rattle.closes.proofs.Going.{live_here, live_nowhere}
use Rattle.closes.proofs.Gone.{gone_one, gone_none}
use Rattle.closes.proofs.unloading.unload_one.Goals as goal

pub returns-in_default : goal.returns-in_default
returns-in_default c ls = gone_none ls c.args.tables.now c.args.id (live_nowhere ls c.args.tables.now c.args.id (sym c.in_default.is ∙ c.module.ensures))

pub returns-then-module : goal.returns-then-module
returns-then-module c ls =
    let m = c.in-Some.«module» in
    ap (with_modules (links_of ls c.args.tables.now)) (gone_one ls c.args.tables.now c.args.id m (sym c.in-Some.is ∙ c.module.ensures) c.if-module.true)

pub returns-else-module : goal.returns-else-module
returns-else-module c ls =
    let m = c.in-Some.«module» in
    gone_none ls c.args.tables.now c.args.id (live_here ls c.args.tables.now c.args.id m (sym c.in-Some.is ∙ c.module.ensures) ∙ c.if-module.false)
