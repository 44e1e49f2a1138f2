use Rattle.std.specs.Prelude.{replicate}
use Rattle.std.proofs.Common.{◌≡◌, ℕ, length, List, arith, rules, sym, ap, subst, ◌∙◌}
use Rattle.lent.specs.Once.{count_marks, Marked}
use Rattle.lent.proofs.Marks.{count-zeros, marked_none}
use Rattle.lent.proofs.once.Once.new.Goals as goal

pub invariant_of-result : goal.invariant_of-result
invariant_of-result c =
    let zeros : c.fill.new.self ≡ replicate (length c.fill.new.self) 0 = search rules in
    record {
      order = omega arith;
      within = omega arith;
      room = search rules;
      counted = sym (ap count_marks zeros ∙ count-zeros _);
      marked = (let P : List ℕ → Type 0 = λ ms. Marked ms Rattle.std.specs.Prelude.[] in subst P (sym zeros) (λ k h. marked_none _ k));
      below = λ k h. absurd (omega arith);
    }
