use Rattle.std.specs.Prelude.{slice_set}
use Rattle.std.proofs.Common.{◌≡◌, ◌+◌, ◌-◌, ◌*◌, ◌≤◌, length, sym, ap, ◌∙◌, arith}
use Rattle.lent.proofs.Rows.{row_end, rows_put, rows_put_past}
use Rattle.lent.proofs.table.Table.set.Goals as goal
use Rattle.lent.specs.Tables.{rows_of}
use Rattle.std.proofs.lemmas.List.Edits.{length-between}

pub returns-then-i-self-clause-rows : goal.returns-then-i-self-clause-rows
returns-then-i-self-clause-rows g c = sym (rows_put_past g.row.W c.args.self.now.words.now c.args.row.now c.args.self.now.len c.args.i (omega arith))

pub returns-clause-rows : goal.returns-clause-rows
returns-clause-rows g c =
    let w = g.row.W in
    let i = c.args.i in
    let n = c.args.self.now.len in
    let ws = c.args.self.now.words.now in
    let x = c.copy_from_slice.new.self in
    let room : w * i + w ≤ length ws = omega (arith, row_end w i n (omega arith)) in
    let l : length x ≡ w = omega (arith, length-between ws (w * i) (w * i + w) room) in
    rows_put w ws x n i (w * i + w - w * i) (omega arith) (omega arith) l (omega arith) ∙ ap (slice_set (rows_of w ws n) i) c.copy_from_slice.ensures.after
