use Rattle.linkage.specs.Rows.{group_at}
use Rattle.linkage.proofs.Found.{made}
use Rattle.linkage.proofs.tables.Tables.group.Goals as goal
use Rattle.std.proofs.Common.{[]}

pub returns : goal.returns
returns c = made group_at c.in_ok-row.field-0.now _ _ c.in_ok-row.ensures.value (c.decode.ensures [])
