-- The worked texts, by computation.
use Rattle.std.proofs.Common.{refl}
use Rattle.meaning.specs.Worked.{Worked, WorkedEdges}

pub worked : Worked
worked = record { greets = refl; first_of_two = refl; own_of_two = refl; opened_twice = refl; kept_by_slot = refl; called_nowhere = refl; must_be_there = refl; may_be_there = refl }

pub worked_edges : WorkedEdges
worked_edges = record { init_reopens = refl; fini_ends = refl; close_ends = refl; fini_reopens = refl; behind_compares = refl; behind_holds_nothing = refl; behind_is_no_other = refl; never_below_zero = refl; never_zero = refl; moves_back = refl; settles_anew = refl; reads_nothing = refl; gone_has_no_fini = refl; one_close_at_once = refl; found_in_none = refl; gone_moves = refl; first_main = refl }
