use Rattle.std.proofs.Common.{◌≡◌, suc, sym, subst, ap, ◌∙◌, ◌-◌, ◌++◌, ◌∷◌, [], take, arith}
use Rattle.std.specs.Prelude.{Option, MatchOption, slice_get}
use Rattle.lent.specs.Tables.{rows_in}
use Rattle.needs.specs.Walks.{entered_in}
use Rattle.needs.specs.Visits.{visit_of}
use Rattle.needs.specs.declared.walk.Visit.{Visit}
use Rattle.needs.proofs.Rows.{last_entered, none_entered}
use Rattle.needs.proofs.walk.Walk.last.Goals as goal

pub returns-in_err-checked_sub : goal.returns-in_err-checked_sub
returns-in_err-checked_sub c =
    let t = c.args.self.now.entered in
    let none : t.len ≡ 0 = omega (arith, c.in_err-checked_sub.ensures) in
    let P : Option Visit → Type 0 = λ o. MatchOption o (entered_in t ≡ []) (λ v. entered_in t ≡ take (t.len - 1) (entered_in t) ++ visit_of v ∷ []) in
    subst P (sym c.from_residual.ensures) (none_entered t none)

pub returns : goal.returns
returns c =
    let t = c.args.self.now.entered in
    let e : c.in_ok-checked_sub.field-0 ≡ t.len - 1 = omega (arith, c.in_ok-checked_sub.ensures) in
    let some : t.len ≡ suc (t.len - 1) = omega (arith, c.in_ok-checked_sub.ensures) in
    last_entered t (t.len - 1) c.in_ok-row.row.now some (ap (slice_get (rows_in 2 t)) (sym e) ∙ sym c.in_ok-row.ensures.value)
