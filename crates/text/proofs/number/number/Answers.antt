use Rattle.std.proofs.Common.{◌≡◌, Bool, true, false, ltb, refl, ◌∙◌, arith, rules, Some}
use Rattle.std.specs.Prelude.{ℕ}
use Rattle.std.specs.Bool.{then_some}
use Rattle.base.specs.Choices.{guard}
use Rattle.std.proofs.lemmas.Bool.{eq-eqb}
use Rattle.text.proofs.Numbers.{ends_none, ends_with}
use Rattle.text.proofs.number.number.Goals as goal

pub returns-then-not-is_ascii_digit-clause-value : goal.returns-then-not-is_ascii_digit-clause-value
returns-then-not-is_ascii_digit-clause-value c = ends_none c.args.word.now c.args.limit c.loop-digit.digit-index c.loop-digit.n c.loop-digit.invariant c.loop-digit-test.true (omega arith) (search rules)

kept : (b : Bool) (n : ℕ) → then_some b n ≡ guard b (Some n)
kept true n = refl
kept false n = refl

pub returns-clause-value : goal.returns-clause-value
returns-clause-value c =
    let e : c.then_some.result ≡ then_some (ltb c.loop-digit.n c.args.limit) c.loop-digit.n = search rules in
    e ∙ kept _ _ ∙ ends_with c.args.word.now c.args.limit c.loop-digit.digit-index c.loop-digit.n c.loop-digit.invariant c.loop-digit-test.false (omega arith) (λ h. grind (arith, eq-eqb))
