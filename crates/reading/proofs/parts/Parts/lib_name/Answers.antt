use Rattle.std.proofs.Common.{◌≡◌, ℕ, true, is_some, Some, None, Option, ap, ◌∙◌, arith}
use Rattle.std.specs.Option as options
use Rattle.text.specs.Readers.{bytes}
use Rattle.reading.proofs.Linewise.{name_taken}
use Rattle.reading.proofs.parts.Parts.lib_name.Goals as goal

some_of : {X : Type 0} (o : Option X) (P : Type 0) (Q : X → Type 0) → true ≡ is_some o → options.MatchOption o P Q → (x : X) × Q x
some_of None P Q e h = let z : ◌≡◌ {A = ℕ} 0 1 = cc in absurd (omega arith)
some_of (Some x) P Q e h = (x, h)

pub returns-then-is_some : goal.returns-then-is_some
returns-then-is_some c =
    let k = some_of c.find.result _ _ c.if-is_some.ensures c.find.ensures in
    name_taken _ _ _ _ c.part.result.now k.0.0 c.in_ok-name.ensures.takes (c.part.ensures ∙ ap (λ t. bytes t c.in_ok-name.name) c.in_ok-name.ensures.text) k.1
