-- What a run answers.
use Rattle.std.specs.Prelude.{None, Option, Some}
use Rattle.std.proofs.Common.{◌≡◌, ℕ, true, ◌⊎◌, List, [], ◌∷◌, ◌++◌, sym, refl, inl, inr, ⊎_elim, arith}
use Rattle.base.specs.Choices.{on_some}
use Rattle.library.specs.Library.{Library, any_version, main_name}
use Rattle.links.specs.Links.{place_at, Room}
use Rattle.links.specs.Symbols.{find_def}
use Rattle.links.specs.Load.{load}
use Rattle.meaning.specs.State as state
use Rattle.meaning.specs.State.{ended, lost}
use Rattle.meaning.specs.Runs as runs
use Rattle.simulation.specs.Says.{RoomOf}
use Rattle.simulation.specs.Loader.{in_code, calling, homing, fallen}
use Rattle.simulation.specs.Outcomes.{StepsCounted, RunAnswers, RunRefuses}

pub steps_counted : StepsCounted
steps_counted w l i c (in_code n z h e m rel) = inr (n, z, omega arith, e, sym rel.outs)
steps_counted w l i c (calling n z t h e e' m q r o) = inr (n, z, h, e, sym o)
steps_counted w l i c (homing n z ps f fs h e s q x m p idle) = inr (n, z, h, e, sym idle.outs)
steps_counted w l i c (fallen x) = inl x

pub run_answers : RunAnswers
run_answers t words gap ins steps lent ls s st = record {
  going = λ l c x. (ls, s, st, ⊎_elim inr (λ y. inl (y.0, y.1, omega (arith, y.2), y.3, y.4)) (steps_counted _ l steps c x));
  ended = λ v os x. (ls, s, st, inl x);
  lost = λ os x. (ls, s, st, inl x);
  fell_going = λ os x. (ls, s, st, inr x);
  fell_ended = λ v os x. (ls, s, st, inr x);
  fell_lost = λ os x. (ls, s, st, inr x);
}

main_or_none : (l : Library) (ls : List Library) (m : Room) (ins : List ℕ) → (find_def true l.defs (record { name = main_name; version = any_version }) ≡ None) ⊎ (load (l ∷ ls) m l.name true (runs.blank ins).links ≡ None) → runs.begins (l ∷ ls) m ins ≡ None
main_or_none l ls m ins (inl e) = rw e
main_or_none l ls m ins (inr e) = go (find_def true l.defs (record { name = main_name; version = any_version }))
  where
    go : (o : Option ℕ) → on_some o (λ k. on_some (load (l ∷ ls) m l.name true (runs.blank ins).links) (λ x. Some (runs.started (state.loaded (runs.blank ins) x) (x.calls ++ (place_at 0 k ∷ []))))) ≡ None
    go None = refl
    go (Some k) = rw e

pub run_refuses : RunRefuses
run_refuses t words gap ins steps lent = record {
  no_text = λ e. (e, refl);
  no_library = λ e. ([], e, refl, refl);
  no_main = λ l ls e q. (l ∷ ls, e, main_or_none l ls (RoomOf words gap) ins (inl q), refl);
  no_load = λ l ls e q. (l ∷ ls, e, main_or_none l ls (RoomOf words gap) ins (inr q), refl);
}
