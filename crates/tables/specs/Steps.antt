-- What the operations on the tables do.
use Rattle.std.specs.Prelude.{◌≡◌, ℕ, ◌+◌, List, [], ◌∷◌, ◌++◌, nat_lt, cond}
use Rattle.base.specs.Names.{Name}
use Rattle.library.specs.Library.{Definition, Cell}
use Rattle.library.specs.Lines.{Item}
use Rattle.library.specs.Text as reading
use Rattle.tables.specs.declared.tables.Tables.{Tables}
use Rattle.tables.specs.declared.draft.Draft.{Draft}
use Rattle.tables.specs.Store.{Store, store, library_from, draft_of, libraries, Sound, Starts, Room}

-- rows were added, but for libraries
pub record Ext (s u : Store) : Type 0 where
  pub text : u.text ≡ s.text
  pub needs : (xs : List Name) × (u.needs ≡ s.needs ++ xs)
  pub defs : (xs : List Definition) × (u.defs ≡ s.defs ++ xs)
  pub inits : (xs : List ℕ) × (u.inits ≡ s.inits ++ xs)
  pub finis : (xs : List ℕ) × (u.finis ≡ s.finis ++ xs)
  pub cells : (xs : List Cell) × (u.cells ≡ s.cells ++ xs)

-- the tables t became u: an item more in the last library
pub record Took (t u : Tables) (i : Item) : Type 0 where
  pub text : u.text.now ≡ t.text.now
  pub rows : u.rows ≡ t.rows
  pub ext : Ext (store t) (store u)
  pub libs : (store u).libs ≡ (store t).libs
  pub count : u.libs.len ≡ t.libs.len
  pub item : (o : Draft) → Starts (store t) o → library_from (store u) o ≡ reading.apply (library_from (store t) o) i
  pub room : (o n : ℕ) → Room t o (n + 1) → Room u o n

-- a draft with a reach at line n
abbrev pub raise : Draft → ℕ → ℕ → Draft
raise o n r = cond (nat_lt o.top r) (record { name = o.name; inward = o.inward; needs = o.needs; defs = o.defs; inits = o.inits; finis = o.finis; cells = o.cells; top = r; line = n }) o

-- the draft o, with line n that has the item i, became r
pub record Put (t u : Tables) (n : ℕ) (o r : Draft) (i : Item) : Type 0 where
  pub text : u.text.now ≡ t.text.now
  pub rows : u.rows ≡ t.rows
  pub done : libraries u ≡ libraries t
  pub count : u.libs.len ≡ t.libs.len
  pub sound : Sound (store u)
  pub draft : draft_of (store u) r ≡ reading.drafted n (draft_of (store t) o) i
  pub starts : Starts (store u) r
  pub room : (k m : ℕ) → Room t k (m + 1) → Room u k m

-- the draft o became the last library
pub record Closed (t u : Tables) (o : Draft) : Type 0 where
  pub text : u.text.now ≡ t.text.now
  pub rows : u.rows ≡ t.rows
  pub done : libraries u ≡ libraries t ++ library_from (store t) o ∷ []
  pub count : u.libs.len ≡ t.libs.len + 1
  pub sound : Sound (store u)
  pub room : (n : ℕ) → Room t 1 n → Room u 0 n
