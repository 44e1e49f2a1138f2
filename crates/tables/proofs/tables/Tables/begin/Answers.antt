use Rattle.std.specs.Prelude.{false}
use Rattle.std.proofs.Common.{◌≡◌, subst}
use Rattle.text.specs.declared.reader.Span.{Span}
use Rattle.tables.specs.declared.tables.Tables.{Tables}
use Rattle.library.specs.Text.{new_draft}
use Rattle.text.specs.Readers.{bytes}
use Rattle.rows.specs.Rows.{name_at, number_at, definition_at, cell_at}
use Rattle.tables.specs.declared.draft.Draft.{Draft}
use Rattle.tables.specs.Store.{store, draft_of, Starts}
use Rattle.tables.proofs.Pushes.{rows_count}
use Rattle.tables.proofs.Drafting.{fresh, fresh_is, fresh_draft, fresh_starts}
use Rattle.tables.proofs.tables.Tables.begin.Goals as goal

counts : (t : Tables) (x : Span) → fresh (store t) x ≡ record { name = x; inward = false; needs = t.needs.len; defs = t.defs.len; inits = t.inits.len; finis = t.finis.len; cells = t.cells.len; top = 0; line = 0 }
unfolding store
counts t x = fresh_is (store t) x t.needs.len t.defs.len t.inits.len t.finis.len t.cells.len (rows_count (name_at t.text.now) 2 t.needs.words.now t.needs.len) (rows_count (definition_at t.text.now) 6 t.defs.words.now t.defs.len) (rows_count number_at 1 t.inits.words.now t.inits.len) (rows_count number_at 1 t.finis.words.now t.finis.len) (rows_count (cell_at t.text.now) 6 t.cells.words.now t.cells.len)

pub returns-clause-draft : goal.returns-clause-draft
unfolding store
returns-clause-draft c =
    let t = c.args.self.now in
    let P : Draft → Type 0 = λ o. draft_of (store t) o ≡ new_draft (bytes t.text.now c.args.name) in
    subst P (counts t c.args.name) (fresh_draft (store t) c.args.name)

pub returns-clause-starts : goal.returns-clause-starts
returns-clause-starts c =
    let t = c.args.self.now in
    subst (Starts (store t)) (counts t c.args.name) (fresh_starts (store t) c.args.name)
