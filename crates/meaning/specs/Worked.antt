-- What the worked texts come to.
use Rattle.std.specs.Option.{option_map}
use Rattle.std.specs.Prelude.{◌≡◌, ℕ, true, false, List, [], ◌∷◌, None, Option, Some}
use Rattle.library.specs.Library.{Get, Same, Less, Library}
use Rattle.links.specs.Links.{Room}
use Rattle.meaning.specs.State.{all}
use Rattle.meaning.specs.Runs.{begins, after}
use Rattle.meaning.specs.Shown.{shown, Fate, ends_with, is_lost, no_meaning, fate}
use Rattle.meaning.specs.Texts.{greeting, two_define, open_twice, slot_keeps, nowhere_called, nowhere_wanted, init_opens_itself, end_in_fini, end_in_close, fini_opens_itself, one_behind, far_behind, loaded_anew, reads_twice, fini_of_gone, close_in_close, find_in_none, place_of_gone, inner_main}

-- after 60 steps, in 5,000 words with gaps of 5: how the program stands and what it has shown; none if it cannot begin
abbrev pub report : List Library → List ℕ → Option (Fate × List ℕ)
report ls ins = option_map (λ s. (fate (after ls room s 60), shown (after ls room s 60))) (begins ls room ins)
  where
    room : Room
    room = record { words = 5000; gap = 5 }

-- what names mean, what begins and ends, what stays
pub record Worked : Type 0 where
  pub greets : report greeting [] ≡ Some (ends_with 0, 99 ∷ 42 ∷ 2 ∷ 7 ∷ 1000 ∷ [])
  pub first_of_two : report (two_define false) [] ≡ Some (ends_with 0, 1 ∷ [])
  pub own_of_two : report (two_define true) [] ≡ Some (ends_with 0, 2 ∷ [])
  pub opened_twice : report open_twice [] ≡ Some (ends_with 0, 1 ∷ 7 ∷ 2 ∷ [])
  pub kept_by_slot : report slot_keeps [] ≡ Some (ends_with 0, 5 ∷ 6 ∷ [])
  pub called_nowhere : report nowhere_called [] ≡ Some (is_lost, 1 ∷ [])
  pub must_be_there : report (nowhere_wanted true) [] ≡ None
  pub may_be_there : report (nowhere_wanted false) [] ≡ Some (ends_with 0, 0 ∷ [])

-- what is easily got wrong
pub record WorkedEdges : Type 0 where
  pub init_reopens : report init_opens_itself [] ≡ Some (ends_with 0, 2 ∷ 1 ∷ 9 ∷ [])
  pub fini_ends : report end_in_fini [] ≡ Some (ends_with 5, 0 ∷ 5 ∷ [])
  pub close_ends : report end_in_close [] ≡ Some (ends_with 3, 0 ∷ 3 ∷ 3 ∷ 1 ∷ [])
  pub fini_reopens : report fini_opens_itself [] ≡ Some (ends_with 0, 2 ∷ 4 ∷ 2 ∷ [])
  pub behind_compares : report (one_behind (Same 4 0 0)) [] ≡ Some (ends_with 0, 12 ∷ 1 ∷ [])
  pub behind_holds_nothing : report (one_behind (Get 4 0 0)) [] ≡ Some (no_meaning, 12 ∷ [])
  pub behind_is_no_other : report (one_behind (Same 4 0 5)) [] ≡ Some (no_meaning, 12 ∷ [])
  pub never_below_zero : report (one_behind (Less 4 0 6)) [] ≡ Some (no_meaning, 12 ∷ [])
  pub never_zero : report (one_behind (Same 4 0 6)) [] ≡ Some (ends_with 0, 12 ∷ 0 ∷ [])
  pub moves_back : report far_behind [] ≡ Some (ends_with 0, 42 ∷ [])
  pub settles_anew : report loaded_anew [] ≡ Some (ends_with 0, 1 ∷ 2 ∷ [])
  pub reads_nothing : report reads_twice (7 ∷ []) ≡ Some (ends_with 0, all ∷ 7 ∷ all ∷ 0 ∷ [])
  pub gone_has_no_fini : report fini_of_gone [] ≡ Some (no_meaning, 3 ∷ [])
  pub one_close_at_once : report close_in_close [] ≡ Some (ends_with 0, 1 ∷ 0 ∷ [])
  pub found_in_none : report find_in_none [] ≡ Some (ends_with 0, 0 ∷ [])
  pub gone_moves : report place_of_gone [] ≡ Some (no_meaning, 1 ∷ [])
  pub first_main : report inner_main [] ≡ Some (ends_with 0, 1 ∷ [])
