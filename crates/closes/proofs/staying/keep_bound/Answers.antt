use Rattle.std.proofs.Common.{length, sym, ap, ◌∙◌, subst}
use Rattle.std.specs.Prelude.{[], cond}
use Rattle.lent.specs.Tables.{rows_in}
use Rattle.links.specs.Close.{hosts}
use Rattle.linkage.specs.Tables.{bindings_from, library_at}
use Rattle.closes.specs.Staying.{Added}
use Rattle.closes.proofs.Gathering.{none_added}
use Rattle.closes.proofs.Rows.{bound_one, bound_none}
use Rattle.closes.proofs.staying.keep_bound.Goals as goal

pub returns-in_default : goal.returns-in_default
returns-in_default g c =
    let ls = g.L.Libraries.libs c.args.libraries.now in
    none_added c.args.stays.now _ (bound_none ls c.args.tables.now c.args.kept (sym c.in_default.is ∙ c.module.ensures))

pub returns-else-module : goal.returns-else-module
returns-else-module g c =
    let ls = g.L.Libraries.libs c.args.libraries.now in
    let m = c.in-Some.«module» in
    let bs = hosts (bindings_from (rows_in 2 c.args.tables.now.bindings) m.load.base (length (library_at ls m.load.library.0).cells)) in
    none_added c.args.stays.now _ (bound_one ls c.args.tables.now c.args.kept m (sym c.in-Some.is ∙ c.module.ensures) ∙ ap (λ b. cond b bs []) c.if-module.false)

pub returns-then-module : goal.returns-then-module
returns-then-module g c =
    let ls = g.L.Libraries.libs c.args.libraries.now in
    let m = c.in-Some.«module» in
    let rs = rows_in 2 c.args.tables.now.bindings in
    let bs = hosts (bindings_from rs m.load.base (length (library_at ls m.load.library.0).cells)) in
    subst (Added c.args.stays.now c.keep_hosts.new.stays) (ap (λ n. hosts (bindings_from rs m.load.base n)) c.count_cells-cells.ensures
    ∙ sym (bound_one ls c.args.tables.now c.args.kept m (sym c.in-Some.is ∙ c.module.ensures) ∙ ap (λ b. cond b bs []) c.if-module.true))
    c.keep_hosts.ensures
