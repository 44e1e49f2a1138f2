use Rattle.std.proofs.Common.{◌≡◌, drop}
use Rattle.text.proofs.Numbers.{capped}
use Rattle.text.proofs.number.number.Given as goal

abbrev pub invariant-loop-digit : goal.invariant-loop-digit
invariant-loop-digit l = capped l.n (drop l.digit-index l.word) ≡ capped 0 l.word
