use Rattle.std.specs.Prelude.{◌≡◌, length, Some}
use Rattle.base.specs.Names.{Name}
use Rattle.libraries.specs.Looks.{number_of}
use Rattle.lent.specs.Numbers.{numbers, limit}
use Rattle.needs.specs.Standing.{Stands, work}
use Rattle.lent.specs.Tables.{column}
use Rattle.needs.specs.Walks.{entered_in}
use Rattle.needs.proofs.order.order.Given as goal

abbrev pub invariant-loop-visit : goal.invariant-loop-visit
invariant-loop-visit g l = record {
  limit : limit l.walk.seen ≡ length (g.L.Libraries.libs l.libraries);
  stands : (x : Name) → number_of (g.L.Libraries.libs l.libraries) x ≡ Some l.fn.first.0 → Stands (g.L.Libraries.libs l.libraries) x (entered_in l.walk.entered) (numbers l.walk.seen) (column l.walk.left);
}

abbrev pub decreases-loop-visit : goal.decreases-loop-visit
decreases-loop-visit g l = work (g.L.Libraries.libs l.libraries) (entered_in l.walk.entered) (numbers l.walk.seen)
