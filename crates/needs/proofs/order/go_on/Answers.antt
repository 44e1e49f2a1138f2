use Rattle.std.proofs.Common.{◌-◌, ◌<◌, ◌++◌, ◌∷◌, [], length, take, ap, ◌∙◌, arith}
use Rattle.std.specs.Prelude.{cond}
use Rattle.std.proofs.lemmas.List.{drop_all}
use Rattle.base.specs.Lists.{has}
use Rattle.lent.specs.Once.{joined}
use Rattle.lent.specs.Numbers.{numbers, limit}
use Rattle.needs.specs.Visits.{visit_of}
use Rattle.lent.specs.Tables.{column}
use Rattle.needs.specs.Walks.{entered_in, needs_at}
use Rattle.needs.specs.Numbered.{needed}
use Rattle.needs.proofs.Reaching.{need_missing, need_found, need_name, needs_count}
use Rattle.needs.proofs.Rows.{last_some, below_last}
use Rattle.needs.proofs.Walking.{left_stands, left_less, entered_stands, entered_less}
use Rattle.needs.proofs.order.go_on.Goals as goal

pub leave-requires : goal.leave-requires
leave-requires g c = last_some c.args.walk.now.entered _ _ c.requires.last

pub returns-then-visit-count_needs-clause-stands : goal.returns-then-visit-count_needs-clause-stands
returns-then-visit-count_needs-clause-stands g c x s =
    let ls = g.L.Libraries.libs c.args.libraries.now in
    let w = c.args.walk.now in
    let e = visit_of c.args.visit in
    left_stands ls x (entered_in w.entered) (entered_in c.leave.new.self.entered) (take (w.entered.len - 1) (entered_in w.entered)) e (numbers w.seen) (numbers c.leave.new.self.seen) (column w.left) (column c.leave.new.self.left)
    c.requires.last c.leave.ensures.entered (ap numbers c.leave.ensures.seen) c.leave.ensures.left
    (drop_all e.looked (needs_at ls e.library) (omega (arith, needs_count ls e.library, c.count_needs.ensures, c.if-visit-count_needs.true))) s

pub returns-in_default-clause-stands : goal.returns-in_default-clause-stands
returns-in_default-clause-stands g c =
    let ls = g.L.Libraries.libs c.args.libraries.now in
    let v = c.args.visit in
    let below : v.looked < length (needed ls v.library.0) = omega (arith, c.count_needs.ensures, c.if-visit-count_needs.false) in
    (need_missing ls v.library.0 v.looked _ below c.need_number.ensures c.in_default.is).1

pub enter-requires : goal.enter-requires
enter-requires g c =
    let ls = g.L.Libraries.libs c.args.libraries.now in
    let v = c.args.visit in
    let below : v.looked < length (needed ls v.library.0) = omega (arith, c.count_needs.ensures, c.if-visit-count_needs.false) in
    let f = need_found ls v.library.0 v.looked _ c.in-Some.needed below c.need_number.ensures c.in-Some.is in
    omega (arith, f.1, c.requires.limit, ap limit c.look.ensures.seen)

pub returns-clause-stands : goal.returns-clause-stands
returns-clause-stands g c x s =
    let ls = g.L.Libraries.libs c.args.libraries.now in
    let w = c.args.walk.now in
    let v = c.args.visit in
    let e = visit_of v in
    let j = c.in-Some.needed.0 in
    let below : v.looked < length (needed ls v.library.0) = omega (arith, c.count_needs.ensures, c.if-visit-count_needs.false) in
    let f = need_found ls v.library.0 v.looked _ c.in-Some.needed below c.need_number.ensures c.in-Some.is in
    let n = need_name ls v.library.0 v.looked j f.0 in
    entered_stands ls x n.0 (entered_in w.entered) (entered_in c.look.new.self.entered) (entered_in c.enter.new.self.entered) (take (w.entered.len - 1) (entered_in w.entered)) e (w.entered.len - 1) j (numbers w.seen) (numbers c.enter.new.self.seen) (column w.left) (column c.enter.new.self.left)
    c.requires.last (below_last w.entered (last_some w.entered _ _ c.requires.last)) c.look.ensures.entered
    (c.enter.ensures.entered ∙ ap (λ q. cond (has j (numbers q)) (entered_in c.look.new.self.entered) (entered_in c.look.new.self.entered ++ record { library = j; looked = 0 } ∷ [])) c.look.ensures.seen)
    (c.enter.ensures.seen ∙ ap (λ q. joined j (numbers q)) c.look.ensures.seen)
    (c.enter.ensures.left ∙ ap column c.look.ensures.left) n.1 n.2 s

pub returns-then-visit-count_needs-clause-less : goal.returns-then-visit-count_needs-clause-less
returns-then-visit-count_needs-clause-less g c =
    let ls = g.L.Libraries.libs c.args.libraries.now in
    let w = c.args.walk.now in
    let e = visit_of c.args.visit in
    left_less ls (entered_in w.entered) (entered_in c.leave.new.self.entered) (take (w.entered.len - 1) (entered_in w.entered)) e (numbers w.seen) (numbers c.leave.new.self.seen)
    c.requires.last c.leave.ensures.entered (ap numbers c.leave.ensures.seen)
    (drop_all e.looked (needs_at ls e.library) (omega (arith, needs_count ls e.library, c.count_needs.ensures, c.if-visit-count_needs.true)))

pub returns-clause-less : goal.returns-clause-less
returns-clause-less g c =
    let ls = g.L.Libraries.libs c.args.libraries.now in
    let w = c.args.walk.now in
    let v = c.args.visit in
    let e = visit_of v in
    let j = c.in-Some.needed.0 in
    let below : v.looked < length (needed ls v.library.0) = omega (arith, c.count_needs.ensures, c.if-visit-count_needs.false) in
    let f = need_found ls v.library.0 v.looked _ c.in-Some.needed below c.need_number.ensures c.in-Some.is in
    let n = need_name ls v.library.0 v.looked j f.0 in
    entered_less ls n.0 (entered_in w.entered) (entered_in c.look.new.self.entered) (entered_in c.enter.new.self.entered) (take (w.entered.len - 1) (entered_in w.entered)) e (w.entered.len - 1) j (numbers w.seen) (numbers c.enter.new.self.seen)
    c.requires.last (below_last w.entered (last_some w.entered _ _ c.requires.last)) c.look.ensures.entered
    (c.enter.ensures.entered ∙ ap (λ q. cond (has j (numbers q)) (entered_in c.look.new.self.entered) (entered_in c.look.new.self.entered ++ record { library = j; looked = 0 } ∷ [])) c.look.ensures.seen)
    (c.enter.ensures.seen ∙ ap (λ q. joined j (numbers q)) c.look.ensures.seen) n.1 n.2
