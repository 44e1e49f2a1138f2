use Rattle.std.proofs.Common.{◌<◌, length, ap, ◌∙◌, arith}
use Rattle.std.specs.Prelude.{cond}
use Rattle.lent.specs.Once.{joined}
use Rattle.lent.specs.Numbers.{numbers}
use Rattle.needs.specs.Numbered.{needed}
use Rattle.needs.proofs.Reaching.{needs_on, needs_stop, need_missing, need_found}
use Rattle.needs.proofs.closure.gather_needs.Goals as goal

pub returns-in_default-clause-numbers : goal.returns-in_default-clause-numbers
returns-in_default-clause-numbers g c =
    let ls = g.L.Libraries.libs c.args.libraries.now in
    let below : c.loop-need.need < length (needed ls c.args.library.0) = omega arith in
    let m = need_missing ls c.args.library.0 c.loop-need.need _ below c.need_number.ensures c.in_default.is in
    (needs_stop (needed ls c.args.library.0) c.loop-need.need _ _ m.0 c.loop-need.invariant.so_far, m.1)

pub loop-need-preserved : goal.loop-need-preserved
loop-need-preserved g c =
    let ls = g.L.Libraries.libs c.args.libraries.now in
    let below : c.loop-need.need < length (needed ls c.args.library.0) = omega arith in
    let f = need_found ls c.args.library.0 c.loop-need.need _ c.in-Some.needed below c.need_number.ensures c.in-Some.is in
    let added = c.add.ensures.value.1 (omega (arith, f.1, c.requires, c.loop-need.invariant.limit)) in
    record {
      so_far = needs_on (needed ls c.args.library.0) c.loop-need.need c.in-Some.needed.0 _ _ _ f.0 (c.add.ensures.numbers ∙ ap (λ b. cond b (joined c.in-Some.needed.0 (numbers c.loop-need.gathered)) (numbers c.loop-need.gathered)) added) c.loop-need.invariant.so_far;
      taken = c.add.ensures.taken ∙ c.loop-need.invariant.taken;
      limit = c.add.ensures.limit ∙ c.loop-need.invariant.limit;
    }
