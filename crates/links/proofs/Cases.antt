-- The worked graphs, by computation.
use Rattle.std.proofs.Common.{refl}
use Rattle.links.specs.Worked.{WorkedNeeds}

pub worked_needs : WorkedNeeds
worked_needs = record { tree_closure = refl; tree_order = refl; ring_closure = refl; ring_order = refl; not_there = refl }
