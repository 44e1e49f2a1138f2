-- The libraries that tables stand for.
use Rattle.std.specs.Prelude.{ℕ, ◌+◌, ◌≤◌, List, map, length, drop, Option, ◌==◌, slice_index, slice_index_or, None, Some}
use Rattle.std.specs.Option.{option_map}
use Rattle.std.specs.List.{between, AllByRecursion}
use Rattle.base.specs.Names.{Name}
use Rattle.text.specs.Readers.{bytes}
use Rattle.library.specs.Library.{Definition, Cell, Library}
use Rattle.library.specs.Text as reading
use Rattle.lent.specs.Tables.{rows_in}
use Rattle.lent.specs.Indexes.{bucket_of, Holds}
use Rattle.lent.specs.declared.index.Index.{Index}
use Rattle.rows.specs.Rows.{name_at, number_at, definition_at, cell_at}
use Rattle.tables.specs.declared.tables.Tables.{Tables}
use Rattle.tables.specs.declared.draft.Draft.{Draft}

-- what the tables hold, each row as what it stands for; the libraries' rows as they are
pub record Store : Type 0 where
  pub text : Name
  pub libs : List (List ℕ)
  pub needs : List Name
  pub defs : List Definition
  pub inits : List ℕ
  pub finis : List ℕ
  pub cells : List Cell

-- the rows of the tables
unfoldable pub store : Tables → Store
store t = record { text = t.text.now; libs = rows_in 13 t.libs; needs = map (name_at t.text.now) (rows_in 2 t.needs); defs = map (definition_at t.text.now) (rows_in 6 t.defs); inits = map number_at (rows_in 1 t.inits); finis = map number_at (rows_in 1 t.finis); cells = map (cell_at t.text.now) (rows_in 6 t.cells) }

-- a library's row: its name, 1 where it is inward, from where to where its parts go
unfoldable pub library_at : Store → List ℕ → Library
library_at s r = record { name = name_at s.text r; inward = (slice_index r 2 == 1); needs = between (slice_index r 3) (slice_index r 4) s.needs; defs = between (slice_index r 5) (slice_index r 6) s.defs; inits = between (slice_index r 7) (slice_index r 8) s.inits; finis = between (slice_index r 9) (slice_index r 10) s.finis; cells = between (slice_index r 11) (slice_index r 12) s.cells }

-- the library that is being read: its parts go up to the end
unfoldable pub library_from : Store → Draft → Library
library_from s o = record { name = bytes s.text o.name; inward = o.inward; needs = drop o.needs s.needs; defs = drop o.defs s.defs; inits = drop o.inits s.inits; finis = drop o.finis s.finis; cells = drop o.cells s.cells }

-- the libraries that are done
abbrev pub done : Store → List Library
done s = map (library_at s) s.libs

-- the library that is being read, with the reach of its lines
abbrev pub draft_of : Store → Draft → reading.Draft
draft_of s o = record { library = library_from s o; top = o.top; top_line = o.line }

-- the same where one is being read
abbrev pub drafts : Store → Option Draft → Option reading.Draft
drafts s o = option_map (draft_of s) o

-- how far reading has come
abbrev pub progress : Store → Option Draft → reading.Progress
progress s o = record { done = done s; draft = drafts s o }

-- the libraries of the tables
abbrev pub libraries : Tables → List Library
libraries t = done (store t)

-- a library's row whose parts are there
pub record Inside (s : Store) (r : List ℕ) : Type 0 where
  pub needs : slice_index_or r 4 0 ≤ length s.needs
  pub defs : slice_index_or r 6 0 ≤ length s.defs
  pub inits : slice_index_or r 8 0 ≤ length s.inits
  pub finis : slice_index_or r 10 0 ≤ length s.finis
  pub cells : slice_index_or r 12 0 ≤ length s.cells

-- all parts of libraries are there
abbrev pub Sound : Store → Type 0
Sound s = AllByRecursion (Inside s) s.libs

-- the parts of the library that is being read begin in the tables
pub record Starts (s : Store) (o : Draft) : Type 0 where
  pub needs : o.needs ≤ length s.needs
  pub defs : o.defs ≤ length s.defs
  pub inits : o.inits ≤ length s.inits
  pub finis : o.finis ≤ length s.finis
  pub cells : o.cells ≤ length s.cells

-- the same where one is being read
abbrev pub Begun : Store → Option Draft → Type 0
Begun s None = Unit {0}
Begun s (Some o) = Starts s o

-- 1 where a library is being read
abbrev pub opened : Option Draft → ℕ
opened None = 0
opened (Some o) = 1

-- there is room for o libraries more, and for n rows more in each table
pub record Room (t : Tables) (o n : ℕ) : Type 0 where
  pub libs : t.libs.len + o + n ≤ t.rows
  pub needs : t.needs.len + n ≤ t.rows
  pub defs : t.defs.len + n ≤ t.rows
  pub inits : t.inits.len + n ≤ t.rows
  pub finis : t.finis.len + n ≤ t.rows
  pub cells : t.cells.len + n ≤ t.rows

-- the bucket of each library's name, of so many
abbrev pub buckets : ℕ → List Library → List ℕ
buckets c ls = map (λ (l : Library). bucket_of l.name c) ls

-- the index has the libraries of the tables by their names
pub record Named (t : Tables) (x : Index) : Type 0 where
  pub holds : Holds x (buckets (length x.heads.now) (libraries t)) t.libs.len
  pub within : t.libs.len ≤ length x.heads.now
