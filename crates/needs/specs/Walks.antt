-- A walk through needs, depth first, as rows hold it.
use Rattle.std.specs.Prelude.{ℕ, suc, ◌+◌, List, [], ◌∷◌, ◌++◌, map, length, drop, cond, slice_get, slice_index}
use Rattle.base.specs.Choices.{opt}
use Rattle.base.specs.Lists.{has}
use Rattle.base.specs.Names.{Name}
use Rattle.library.specs.Library.{Library}
use Rattle.lent.specs.Tables.{rows_in}
use Rattle.lent.specs.declared.table.Table.{Table}
use Rattle.links.specs.Closure.{Task, leave, enters}
use Rattle.needs.specs.Numbered.{name_at}

-- a library that was entered and not left, and how many of its needs were looked at
pub record Entered : Type 0 where
  pub library : ℕ
  pub looked : ℕ

-- what a row says
abbrev pub entered_at : List ℕ → Entered
entered_at r = record { library = slice_index r 0; looked = slice_index r 1 }

-- the libraries that were entered and not left, the last one last
abbrev pub entered_in : Table 2 → List Entered
entered_in t = map entered_at (rows_in 2 t)

-- the names that library i needs
abbrev pub needs_at : List Library → ℕ → List Name
needs_at ls i = opt (slice_get ls i) [] (λ l. l.needs)

-- what is still to do for a library: to enter the rest of its needs, then to leave it
abbrev pub tasks_for : List Library → Entered → List Task
tasks_for ls e = enters (drop e.looked (needs_at ls e.library)) ++ (leave (name_at ls e.library) ∷ [])

-- the same for all, the last one's tasks first, and ts behind them
abbrev pub tasks_of : List Library → List Entered → List Task → List Task
tasks_of ls [] ts = ts
tasks_of ls (e ∷ es) ts = tasks_of ls es (tasks_for ls e ++ ts)

-- the tasks that libraries which weren't seen will make; k: the number of the first
abbrev pub ahead : ℕ → List ℕ → List Library → ℕ
ahead k seen [] = 0
ahead k seen (l ∷ ls) = cond (has k seen) 0 (suc (length l.needs)) + ahead (suc k) seen ls

-- one more need was looked at
abbrev pub looked_on : Entered → Entered
looked_on e = record { library = e.library; looked = e.looked + 1 }
