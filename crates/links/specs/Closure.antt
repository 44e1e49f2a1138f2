-- The closure of a library under needs, and the order in which its libraries are initialised.
use Rattle.std.specs.Prelude.{ℕ, zero, suc, ◌+◌, List, [], ◌∷◌, ◌++◌, length, None, Option, Some, cond}
use Rattle.base.specs.Choices.{opt, on_some}
use Rattle.base.specs.Names.{Name, among}
use Rattle.library.specs.Library.{Library, find_library}

-- the names of xs that aren't seen yet, each once
abbrev pub news : List Name → List Name → List Name
news [] seen = []
news (x ∷ xs) seen = cond (among x seen) (news xs seen) (x ∷ news xs (x ∷ seen))

-- breadth first, from the names in the queue on; none if a library isn't in the text. n bounds the libraries taken from the queue
abbrev pub breadth : ℕ → List Library → List Name → List Name → Option (List Name)
breadth n ls [] seen = Some seen
breadth zero ls (x ∷ xs) seen = None
breadth (suc n) ls (x ∷ xs) seen = on_some (find_library ls x) (λ l. breadth n ls (xs ++ news l.needs seen) (seen ++ news l.needs seen))

-- a library, what it needs, what these need, and so on
abbrev pub closure : List Library → Name → Option (List Name)
closure ls x = breadth (suc (length ls)) ls (x ∷ []) (x ∷ [])

-- what a walk through needs has still to do: enter a library, or leave one that was entered
pub data Task : Type 0 where
  enter : Name → Task
  leave : Name → Task

-- enter each, in this order
abbrev pub enters : List Name → List Task
enters [] = []
enters (x ∷ xs) = enter x ∷ enters xs

-- depth first: tasks are done one by one; a library that was seen is not entered again, one that is left is done. n bounds the tasks
abbrev pub depth : ℕ → List Library → List Task → List Name → List Name → List Name
depth zero ls ts seen done = done
depth (suc n) ls [] seen done = done
depth (suc n) ls (leave x ∷ ts) seen done = depth n ls ts seen (done ++ (x ∷ []))
depth (suc n) ls (enter x ∷ ts) seen done = cond (among x seen) (depth n ls ts seen done) (depth n ls (opt (find_library ls x) [] (λ l. enters l.needs) ++ (leave x ∷ ts)) (x ∷ seen) done)

-- how many needs lines the text has
abbrev pub all_needs : List Library → ℕ
all_needs [] = 0
all_needs (l ∷ ls) = length l.needs + all_needs ls

-- what is needed before what needs it, in the order of lines; a ring is broken where it would be entered again. Enough tasks: each library is left once, and entered as often as it is needed
abbrev pub init_order : List Library → Name → List Name
init_order ls x = depth (2 + (length ls + (length ls + all_needs ls))) ls (enter x ∷ []) [] []
