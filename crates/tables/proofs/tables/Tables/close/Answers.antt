use Rattle.std.specs.Prelude.{is_ok}
use Rattle.std.proofs.Common.{◌+◌, ◌*◌, ◌≤◌, [], length, sym, refl, arith}
use Rattle.std.proofs.lemmas.List.{append-nil}
use Rattle.rows.specs.Rows.{name_at, number_at, definition_at, cell_at}
use Rattle.tables.specs.Store.{store}
use Rattle.tables.proofs.Pushes.{taken, rows_count}
use Rattle.tables.proofs.Drafting.{close_law}
use Rattle.tables.proofs.tables.Tables.close.Goals as goal

pub returns : goal.returns
unfolding store
returns c =
    let t = c.args.self.now in
    let room : 13 * t.libs.len + 13 ≤ length t.libs.words.now = omega arith in
    let rows = taken (is_ok c.push.result) _ _ _ _ _ c.push.ensures.room room c.push.ensures.rows in
    let len = taken (is_ok c.push.result) _ _ _ _ _ c.push.ensures.room room c.push.ensures.len in
    let p = close_law (store t) _ c.args.draft c.from.result t.needs.len t.defs.len t.inits.len t.finis.len t.cells.len
    (record { text = refl; needs = ([], sym (append-nil _)); defs = ([], sym (append-nil _)); inits = ([], sym (append-nil _)); finis = ([], sym (append-nil _)); cells = ([], sym (append-nil _)) })
    rows c.from.ensures
    (rows_count (name_at t.text.now) 2 t.needs.words.now t.needs.len) (rows_count (definition_at t.text.now) 6 t.defs.words.now t.defs.len) (rows_count number_at 1 t.inits.words.now t.inits.len) (rows_count number_at 1 t.finis.words.now t.finis.len) (rows_count (cell_at t.text.now) 6 t.cells.words.now t.cells.len)
    c.requires.sound in
    record {
      text = refl;
      rows = refl;
      done = p.0;
      count = len;
      sound = p.1;
      room = λ n h. record { libs = omega arith; needs = omega arith; defs = omega arith; inits = omega arith; finis = omega arith; cells = omega arith };
    }
