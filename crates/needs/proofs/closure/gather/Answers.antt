use Rattle.std.proofs.Common.{◌≡◌, ◌<◌, ◌+◌, ◌-◌, length, sym, ap, ◌∙◌, refl, arith}
use Rattle.std.specs.Prelude.{Some, min}
use Rattle.lent.specs.Numbers.{numbers}
use Rattle.needs.specs.Numbered.{needed, reach, fold_some, joined_some}
use Rattle.needs.specs.Refusals.{Refused}
use Rattle.needs.specs.declared.faults.NotGathered.TheVariants.{Missing}
use Rattle.needs.proofs.Reaching.{reach_on, reach_stop, reach_end, fault_is}
use Rattle.needs.proofs.closure.gather.Goals as goal

pub loop-library-smaller : goal.loop-library-smaller
loop-library-smaller g c =
    let t = c.in-Some.ensures.taken in
    omega (arith, c.in_ok-gather_needs.ensures.taken, c.in-Some.ensures.below, c.loop-library.invariant.limit, t)

pub loop-library-preserved : goal.loop-library-preserved
loop-library-preserved g c =
    let ls = g.L.Libraries.libs c.args.libraries.now in
    let b = c.in-Some.ensures.below in
    let below : c.loop-library.gathered.taken < length ls = omega (arith, b.1, c.loop-library.invariant.limit) in
    let one : c.gather_needs.new.gathered.taken ≡ c.loop-library.gathered.taken + 1 = c.in_ok-gather_needs.ensures.taken ∙ c.in-Some.ensures.taken in
    record {
      so_far = ap (λ h. reach (length ls - h) (needed ls) h (numbers c.gather_needs.new.gathered)) one
          ∙ reach_on (length ls) c.loop-library.gathered.taken c.in-Some.library (needed ls) (numbers c.loop-library.gathered) (numbers c.gather_needs.new.gathered) _ below (sym c.in-Some.ensures.value)
          (ap (fold_some joined_some (needed ls c.in-Some.library)) (sym c.in-Some.ensures.numbers) ∙ c.in_ok-gather_needs.ensures.numbers)
          c.loop-library.invariant.so_far;
      limit = c.in_ok-gather_needs.ensures.limit ∙ c.in-Some.ensures.limit ∙ c.loop-library.invariant.limit;
    }

pub returns-in_err-gather_needs : goal.returns-in_err-gather_needs
returns-in_err-gather_needs g c =
    let ls = g.L.Libraries.libs c.args.libraries.now in
    let b = c.in-Some.ensures.below in
    let below : c.loop-library.gathered.taken < length ls = omega (arith, b.1, c.loop-library.invariant.limit) in
    let stop = reach_stop (length ls) c.loop-library.gathered.taken c.in-Some.library (needed ls) (numbers c.loop-library.gathered) _ below (sym c.in-Some.ensures.value)
    (ap (fold_some joined_some (needed ls c.in-Some.library)) (sym c.in-Some.ensures.numbers) ∙ c.in_err-gather_needs.ensures.numbers.0)
    c.loop-library.invariant.so_far in
    fault_is c.from_residual.result _ (Refused ls c.args.first.0 (min (length c.args.words.now) (length c.args.marks.now))) (Missing c.in_err-gather_needs.field-0.0) c.from_residual.ensures.1 (stop, c.in_err-gather_needs.ensures.numbers.1)

pub returns : goal.returns
returns g c =
    let ls = g.L.Libraries.libs c.args.libraries.now in
    sym c.loop-library.invariant.so_far ∙ reach_end _ c.loop-library.gathered.taken (needed ls) (numbers c.loop-library.gathered) _ (sym c.in_default.ensures.value) refl ∙ ap Some (sym c.in_default.ensures.numbers)
