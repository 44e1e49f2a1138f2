use Rattle.std.proofs.Common.{◌≡◌, ◌+◌, ◌*◌, length, ap, ◌∙◌, arith}
use Rattle.std.specs.Prelude.{cond, is_ok}
use Rattle.lent.proofs.Marks.{count_le}
use Rattle.needs.proofs.Rows.{entered_take, room_is}
use Rattle.needs.proofs.walk.Walk.leave.Goals as goal

pub invariant_of-self : goal.invariant_of-self
invariant_of-self c =
    let s = c.args.self.now in
    let marks = count_le s.seen.marks.now in
    let room = room_is 1 (1 * s.left.len + 1) (length s.left.words.now) (is_ok c.push.result) c.push.ensures.room (omega arith) (omega (arith, s.balanced, s.done_room, s.seen.counted, c.requires)) in
    let more : c.push.new.self.len ≡ s.left.len + 1 = c.push.ensures.len ∙ ap (λ b. cond b (s.left.len + 1) s.left.len) room in
    record {
      room = omega (arith, s.room, ap length c.truncate.ensures.words);
      done_room = omega (arith, s.done_room, c.push.ensures.size);
      balanced = omega (arith, s.balanced, more, c.truncate.ensures.len, c.requires);
    }

pub returns-clause-entered : goal.returns-clause-entered
returns-clause-entered c = entered_take c.args.self.now.entered c.truncate.new.self _ c.truncate.ensures.rows
