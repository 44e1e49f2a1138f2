use Rattle.std.proofs.Common.{◌≡◌, drop}
use Rattle.lent.specs.Numbers.{numbers, limit}
use Rattle.needs.specs.Numbered.{needed, fold_some, joined_some}
use Rattle.needs.proofs.closure.gather_needs.Given as goal

abbrev pub invariant-loop-need : goal.invariant-loop-need
invariant-loop-need g l = record {
  so_far : fold_some joined_some (drop l.need (needed (g.L.Libraries.libs l.libraries) l.library.0)) (numbers l.gathered) ≡ fold_some joined_some (needed (g.L.Libraries.libs l.libraries) l.library.0) (numbers l.initial.gathered);
  taken : l.gathered.taken ≡ l.initial.gathered.taken;
  limit : limit l.gathered ≡ limit l.initial.gathered;
}
