use Rattle.std.proofs.Common.{◌<◌, length, ap, arith, length-set}
use Rattle.lent.specs.Once.{is_mark}
use Rattle.lent.proofs.Marks.{count_lt, count_more, marked_more, below_more}
use Rattle.lent.proofs.once.Once.add.Goals as goal

pub bounds-self-self : goal.bounds-self-self
bounds-self-self c = let s = c.args.self.now in omega (arith, s.counted, s.room, count_lt s.marks.now c.args.number c.if-number-self.false (ap is_mark c.if-self-number-ne0.false))

pub invariant_of-self-2 : goal.invariant_of-self-2
invariant_of-self-2 c =
    let s = c.args.self.now in
    let unmarked = ap is_mark c.if-self-number-ne0.false in
    let below = c.if-number-self.false in
    let room = count_lt s.marks.now c.args.number below unmarked in
    let left : s.len < length s.words.now = omega (arith, s.counted, s.room, room) in
    record {
      order = omega (arith, s.order);
      within = omega (arith, left, length-set s.words.now s.len c.args.number);
      room = omega (arith, s.room, length-set s.words.now s.len c.args.number, length-set s.marks.now c.args.number 1);
      counted = omega (arith, s.counted, count_more s.marks.now c.args.number below unmarked);
      marked = marked_more s.marks.now s.words.now s.len c.args.number left below s.marked;
      below = below_more s.marks.now s.words.now s.len c.args.number left below s.below;
    }
