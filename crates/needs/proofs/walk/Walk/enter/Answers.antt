use Rattle.std.proofs.Common.{◌≡◌, ◌+◌, ◌*◌, ◌++◌, ◌∷◌, [], length, sym, ap, ◌∙◌, arith}
use Rattle.std.specs.Prelude.{cond, is_ok}
use Rattle.lent.specs.Once.{joined}
use Rattle.lent.specs.Numbers.{numbers}
use Rattle.lent.proofs.Marks.{count_le}
use Rattle.std.proofs.lemmas.List.{length_push}
use Rattle.needs.proofs.Rows.{numbers_count, room_is}
use Rattle.needs.proofs.walk.Walk.enter.Goals as goal

pub invariant_of-self : goal.invariant_of-self
invariant_of-self c =
    let s = c.args.self.now in
    let j = c.args.library.0 in
    let added = c.add.ensures.value.1 c.requires in
    let grown = c.add.ensures.numbers ∙ ap (λ b. cond b (joined j (numbers s.seen)) (numbers s.seen)) added ∙ ap (λ b. cond b (numbers s.seen) (numbers s.seen ++ j ∷ [])) (sym c.if-contains.ensures) in
    let more : c.add.new.self.len ≡ s.seen.len + 1 = omega (arith, ap length grown, length_push (numbers s.seen) j, numbers_count s.seen, numbers_count c.add.new.self) in
    let marks = count_le c.add.new.self.marks.now in
    let room = room_is 2 (2 * s.entered.len + 2) (length s.entered.words.now) (is_ok c.push.result) c.push.ensures.room (omega arith) (omega (arith, s.balanced, s.room, more, c.add.new.self.counted, c.add.ensures.limit)) in
    let last : c.push.new.self.len ≡ s.entered.len + 1 = c.push.ensures.len ∙ ap (λ b. cond b (s.entered.len + 1) s.entered.len) room in
    record {
      room = omega (arith, s.room, c.push.ensures.size, c.add.ensures.limit);
      done_room = omega (arith, s.done_room, c.add.ensures.limit);
      balanced = omega (arith, s.balanced, more, last);
    }
