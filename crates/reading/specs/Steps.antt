-- What reading a line, and all lines, does to the tables.
use Rattle.std.specs.Prelude.{None, Some}
use Rattle.std.specs.Prelude.{◌≡◌, ℕ, ◌+◌, ◌/◌, ◌<◌, ◌≤◌, Bool, true, List, [], ◌∷◌, ◌++◌, length, Ok, Err, Option, ◌==◌}
use Rattle.base.specs.Names.{Name}
use Rattle.library.specs.Text as reading
use Rattle.library.specs.declared.faults.ReadFault.{ReadFault}
use Rattle.library.specs.declared.faults.ReadFault.TheVariants.{Line, TooFewWords}
use Rattle.lent.specs.Indexes.{Holds}
use Rattle.reading.specs.declared.parts.Parts.{Parts}
use Rattle.tables.specs.declared.draft.Draft.{Draft}
use Rattle.tables.specs.Store.{store, library_from, draft_of, progress, libraries, Sound, Begun, Room, opened}

-- tables and index between two lines, o being read
pub record Kept (p : Parts) (o : Option Draft) : Type 0 where
  pub sound : Sound (store p.tables)
  pub begun : Begun (store p.tables) o
  pub some : 0 < p.tables.rows

-- the draft d became the last library, and is indexed
pub record Shut (p q : Parts) (d : Draft) : Type 0 where
  pub text : q.tables.text.now ≡ p.tables.text.now
  pub rows : q.tables.rows ≡ p.tables.rows
  pub kept : Kept q None
  pub done : libraries q.tables ≡ libraries p.tables ++ library_from (store p.tables) d ∷ []
  pub room : (n : ℕ) → Room p.tables 1 n → Room q.tables 0 n

-- the library that was being read, if any, is done
pub record Finished (p q : Parts) (o : Option Draft) : Type 0 where
  pub text : q.tables.text.now ≡ p.tables.text.now
  pub rows : q.tables.rows ≡ p.tables.rows
  pub kept : Kept q None
  pub done : reading.finished (progress (store p.tables) o) ≡ Ok (libraries q.tables)
  pub room : (n : ℕ) → Room p.tables (opened o) n → Room q.tables 0 n

-- line n began the draft d, with the words ws behind `lib`
pub record Began (p q : Parts) (n : ℕ) (o : Option Draft) (d : Draft) (ws : List Name) : Type 0 where
  pub text : q.tables.text.now ≡ p.tables.text.now
  pub rows : q.tables.rows ≡ p.tables.rows
  pub kept : Kept q (Some d)
  pub line : reading.lib_line n (progress (store p.tables) o) ws ≡ Ok (progress (store q.tables) (Some d))
  pub room : (m : ℕ) → Room p.tables (opened o) (m + 1) → Room q.tables 1 m

-- line n, with the first word w and the words ws behind it, made e of the draft d
pub record Itemed (p q : Parts) (n : ℕ) (d e : Draft) (w : Name) (ws : List Name) : Type 0 where
  pub text : q.tables.text.now ≡ p.tables.text.now
  pub rows : q.tables.rows ≡ p.tables.rows
  pub kept : Kept q (Some e)
  pub line : reading.library_item n (progress (store p.tables) (Some d)) (draft_of (store p.tables) d) w ws ≡ Ok (progress (store q.tables) (Some e))
  pub room : (m : ℕ) → Room p.tables 1 (m + 1) → Room q.tables 1 m

-- a line that begins with this word says nothing
abbrev pub mute : Name → Bool
mute [] = true
mute (c ∷ cs) = c == 35

-- how many rows a line takes at most
abbrev pub takes_rows : List Name → ℕ
takes_rows [] = 0
takes_rows (w ∷ ws) = 1

-- line n, with the words ws, was read
pub record Lined (p q : Parts) (n : ℕ) (o r : Option Draft) (ws : List Name) : Type 0 where
  pub text : q.tables.text.now ≡ p.tables.text.now
  pub rows : q.tables.rows ≡ p.tables.rows
  pub kept : Kept q r
  pub line : reading.line n (progress (store p.tables) o) ws ≡ Ok (progress (store q.tables) r)
  pub room : (m : ℕ) → Room p.tables (opened o) (m + takes_rows ws) → Room q.tables (opened r) m

-- no rows, and room for some
pub record Blank (p : Parts) : Type 0 where
  pub small : p.tables.rows < 1152921504606846976
  pub libs : p.tables.libs.len ≡ 0
  pub needs : p.tables.needs.len ≡ 0
  pub defs : p.tables.defs.len ≡ 0
  pub inits : p.tables.inits.len ≡ 0
  pub finis : p.tables.finis.len ≡ 0
  pub cells : p.tables.cells.len ≡ 0
  pub holds : (bs : List ℕ) → Holds p.names bs 0

-- why the text t can't be read in n lent words: never for want of words where n is 31 and 16 for each byte
abbrev pub Failed : Name → ℕ → ReadFault → Type 0
Failed t n (Line b) = reading.read t ≡ Err b
Failed t n TooFewWords = n / 31 ≤ length t / 2
