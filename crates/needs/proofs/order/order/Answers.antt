use Rattle.std.proofs.Common.{◌++◌, ◌∷◌, [], ap, sym, refl, ◌∙◌}
use Rattle.std.specs.Prelude.{cond}
use Rattle.base.specs.Lists.{has}
use Rattle.lent.specs.Once.{joined}
use Rattle.needs.specs.Walks.{entered_in}
use Rattle.needs.proofs.Walking.{walk_begins, walk_ends, stands_at}
use Rattle.needs.proofs.order.order.Goals as goal

pub loop-visit-init : goal.loop-visit-init
loop-visit-init g c =
    let i = c.args.first.0 in
    let w = c.new-walk.result in
    let entered = c.enter.ensures.entered ∙ ap (λ xs. cond (has i xs) (entered_in w.entered) (entered_in w.entered ++ record { library = i; looked = 0 } ∷ [])) c.new-walk.ensures.seen ∙ ap (λ es. es ++ record { library = i; looked = 0 } ∷ []) c.new-walk.ensures.entered in
    let seen = c.enter.ensures.seen ∙ ap (joined i) c.new-walk.ensures.seen in
    let left = c.enter.ensures.left ∙ c.new-walk.ensures.left in
    record {
      limit = c.enter.ensures.limit ∙ c.new-walk.ensures.limit ∙ c.len-count.ensures;
      stands = λ x n. stands_at (g.L.Libraries.libs c.args.libraries.now) x _ _ _ _ _ _ entered seen left (walk_begins (g.L.Libraries.libs c.args.libraries.now) x i n);
    }

pub returns : goal.returns
returns g c x n =
    let ls = g.L.Libraries.libs c.args.libraries.now in
    walk_ends ls x _ _ (stands_at ls x _ _ _ _ _ _ (sym c.in_default.ensures) refl refl (c.loop-visit.invariant.stands x n))
