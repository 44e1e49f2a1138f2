use Rattle.library.specs.Views.{cell_of}
use Rattle.linkage.specs.Tables.{links_of}
use Rattle.refs.proofs.Missing.{unmet_here, unmet_on}
use Rattle.refs.proofs.unmet.unmet_in.Goals as goal

pub returns-then-not-is_met : goal.returns-then-not-is_met
returns-then-not-is_met g c =
    let ls = g.L.Libraries.libs c.args.libraries.now in
    unmet_here (links_of ls c.args.tables.now) ls c.args.library.0 c.args.me c.loop-i.i (cell_of (λ x. x.now) c.in_ok-cell.cell) c.is_met.result c.in_ok-cell.ensures c.is_met.ensures c.if-not-is_met.true c.loop-i.invariant

pub loop-i-preserved : goal.loop-i-preserved
loop-i-preserved g c =
    let ls = g.L.Libraries.libs c.args.libraries.now in
    unmet_on (links_of ls c.args.tables.now) ls c.args.library.0 c.args.me c.loop-i.i (cell_of (λ x. x.now) c.in_ok-cell.cell) c.is_met.result c.in_ok-cell.ensures c.is_met.ensures c.if-not-is_met.false c.loop-i.invariant
