use Rattle.std.proofs.Common.{List, [], sym, ap, ◌∙◌}
use Rattle.links.specs.Links as links
use Rattle.links.specs.Close.{closed_group}
use Rattle.lent.specs.Tables.{rows_in}
use Rattle.linkage.specs.Rows.{group_at}
use Rattle.linkage.specs.Tables.{links_of, group_of}
use Rattle.linkage.proofs.Closed.{put_read}
use Rattle.linkage.proofs.tables.Tables.close_group.Goals as goal

pub returns : goal.returns
returns c ls =
    let t = c.args.self.now in
    let k = links_of ls t in
    let put : List links.Group → links.Links = λ gs. record { modules = k.modules; groups = gs; order = k.order; used = k.used } in
    ap put
    (put_read (λ r. group_of t (group_at r)) group_at closed_group (rows_in 3 t.groups) (rows_in 3 c.set.new.self) c.args.group c.encode.result c.in-Some.open
    (sym c.in-Some.is ∙ c.group.ensures)
    c.set.ensures.rows
    (λ r e. ap (group_of t) (c.encode.ensures []) ∙ ap (λ g. closed_group (group_of t g)) (sym e)))
