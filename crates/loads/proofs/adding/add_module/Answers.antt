use Rattle.std.proofs.Common.{[], ap, sym, ◌∙◌, ◌+◌, suc, eqb, slice_index, slice_set, length, ◌<◌, arith}
use Rattle.links.specs.Links.{with_modules}
use Rattle.linkage.specs.Tables.{numbered, links_of, live_in}
use Rattle.loads.proofs.Added.{made, added, absent_still}
use Rattle.linkage.specs.Rows.{load_at}
use Rattle.loads.proofs.adding.add_module.Goals as goal

pub returns-clause-added : goal.returns-clause-added
returns-clause-added c ls none =
    let t = c.args.tables.now in
    let load = c.args.load in
    let inside : load.library.0 < length t.loaded.now = omega (arith, c.if-library-tables.false) in
    ap (λ rs. with_modules (links_of ls t) (numbered (λ b r. made ls t (eqb (slice_index (slice_set t.loaded.now load.library.0 (t.modules.len + 1)) (slice_index r 0)) (suc b)) (load_at r)) 0 rs)) c.in_ok-push.ensures.rows
    ∙ ap (with_modules (links_of ls t)) (added ls t load c.encode.result inside (c.encode.ensures []) none)

pub returns-clause-absent : goal.returns-clause-absent
returns-clause-absent c k = absent_still c.args.tables.now c.push.new.self c.args.load c.encode.result k (c.args.tables.now.modules.len + 1) c.in_ok-push.ensures.rows (c.encode.ensures [])

pub returns-in_err-push-clause-absent : goal.returns-in_err-push-clause-absent
returns-in_err-push-clause-absent c k other none j m here =
    let t = c.args.tables.now in
    none j m (ap (λ s. live_in (record { modules = s; groups = t.groups; bindings = t.bindings; members = t.members; order = t.order; loaded = t.loaded; used = t.used }) j) (sym c.in_err-push.ensures.same) ∙ here)
