use Rattle.std.proofs.Common.{◌≡◌, ◌-◌, length}
use Rattle.lent.specs.Numbers.{numbers, limit}
use Rattle.needs.specs.Numbered.{needed, reach, closure_numbers}
use Rattle.needs.proofs.closure.gather.Given as goal

abbrev pub invariant-loop-library : goal.invariant-loop-library
invariant-loop-library g l = record {
  so_far : reach (length (g.L.Libraries.libs l.libraries) - l.gathered.taken) (needed (g.L.Libraries.libs l.libraries)) l.gathered.taken (numbers l.gathered) ≡ closure_numbers (g.L.Libraries.libs l.libraries) l.fn.first.0;
  limit : limit l.gathered ≡ length (g.L.Libraries.libs l.libraries);
}

abbrev pub decreases-loop-library : goal.decreases-loop-library
decreases-loop-library g l = length (g.L.Libraries.libs l.libraries) - l.gathered.taken
