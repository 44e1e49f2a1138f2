use Rattle.std.proofs.Common.{[], ap, refl, sym, arith}
use Rattle.std.proofs.lemmas.List.{append-nil}
use Rattle.text.specs.Readers.{bytes}
use Rattle.lines.specs.Items.{item_of}
use Rattle.tables.specs.Store.{store}
use Rattle.tables.proofs.Laws.{need_law, define_law, init_law, fini_law, cell_law}
use Rattle.tables.proofs.Drafting.{put_took, put_turned}
use Rattle.tables.proofs.tables.Tables.put.Goals as goal

pub returns-in-Inward : goal.returns-in-Inward
returns-in-Inward c = put_turned c.args.self.now c.args.line c.args.draft _ _ _ (ap (item_of (bytes c.args.self.now.text.now)) c.in-Inward.is) c.requires.sound c.requires.starts c.raised-raised.ensures (c.item_reach.ensures c.args.self.now.text.now)

pub returns-in-Needs : goal.returns-in-Needs
unfolding store
returns-in-Needs c =
    let t = c.args.self.now in
    let e = c.add.ensures.parts t.text.now in
    put_took t _ c.args.line c.args.draft _ _ _ c.item_reach.result (ap (item_of (bytes t.text.now)) c.in-Needs.is)
    (record {
      text = refl;
      rows = refl;
      ext = record { text = refl; needs = (_, e); defs = ([], sym (append-nil _)); inits = ([], sym (append-nil _)); finis = ([], sym (append-nil _)); cells = ([], sym (append-nil _)) };
      libs = refl;
      count = refl;
      item = need_law _ _ _ refl e refl refl refl refl;
      room = λ o n h. record { libs = omega arith; needs = omega arith; defs = omega arith; inits = omega arith; finis = omega arith; cells = omega arith };
    })
    c.requires.sound c.requires.starts c.raised-raised.ensures (c.item_reach.ensures t.text.now)

pub returns-in-Define : goal.returns-in-Define
unfolding store
returns-in-Define c =
    let t = c.args.self.now in
    let e = c.add-in-Define.ensures.parts t.text.now in
    put_took t _ c.args.line c.args.draft _ _ _ c.item_reach.result (ap (item_of (bytes t.text.now)) c.in-Define.is)
    (record {
      text = refl;
      rows = refl;
      ext = record { text = refl; needs = ([], sym (append-nil _)); defs = (_, e); inits = ([], sym (append-nil _)); finis = ([], sym (append-nil _)); cells = ([], sym (append-nil _)) };
      libs = refl;
      count = refl;
      item = define_law _ _ _ refl refl e refl refl refl;
      room = λ o n h. record { libs = omega arith; needs = omega arith; defs = omega arith; inits = omega arith; finis = omega arith; cells = omega arith };
    })
    c.requires.sound c.requires.starts c.raised-raised.ensures (c.item_reach.ensures t.text.now)

pub returns-in-Init : goal.returns-in-Init
unfolding store
returns-in-Init c =
    let t = c.args.self.now in
    let e = c.add-in-Init.ensures.parts t.text.now in
    put_took t _ c.args.line c.args.draft _ _ _ c.item_reach.result (ap (item_of (bytes t.text.now)) c.in-Init.is)
    (record {
      text = refl;
      rows = refl;
      ext = record { text = refl; needs = ([], sym (append-nil _)); defs = ([], sym (append-nil _)); inits = (_, e); finis = ([], sym (append-nil _)); cells = ([], sym (append-nil _)) };
      libs = refl;
      count = refl;
      item = init_law _ _ _ refl refl refl e refl refl;
      room = λ o n h. record { libs = omega arith; needs = omega arith; defs = omega arith; inits = omega arith; finis = omega arith; cells = omega arith };
    })
    c.requires.sound c.requires.starts c.raised-raised.ensures (c.item_reach.ensures t.text.now)

pub returns-in-Fini : goal.returns-in-Fini
unfolding store
returns-in-Fini c =
    let t = c.args.self.now in
    let e = c.add-in-Fini.ensures.parts t.text.now in
    put_took t _ c.args.line c.args.draft _ _ _ c.item_reach.result (ap (item_of (bytes t.text.now)) c.in-Fini.is)
    (record {
      text = refl;
      rows = refl;
      ext = record { text = refl; needs = ([], sym (append-nil _)); defs = ([], sym (append-nil _)); inits = ([], sym (append-nil _)); finis = (_, e); cells = ([], sym (append-nil _)) };
      libs = refl;
      count = refl;
      item = fini_law _ _ _ refl refl refl refl e refl;
      room = λ o n h. record { libs = omega arith; needs = omega arith; defs = omega arith; inits = omega arith; finis = omega arith; cells = omega arith };
    })
    c.requires.sound c.requires.starts c.raised-raised.ensures (c.item_reach.ensures t.text.now)

pub returns-in-Cell : goal.returns-in-Cell
unfolding store
returns-in-Cell c =
    let t = c.args.self.now in
    let e = c.add-in-Cell.ensures.parts t.text.now in
    put_took t _ c.args.line c.args.draft _ _ _ c.item_reach.result (ap (item_of (bytes t.text.now)) c.in-Cell.is)
    (record {
      text = refl;
      rows = refl;
      ext = record { text = refl; needs = ([], sym (append-nil _)); defs = ([], sym (append-nil _)); inits = ([], sym (append-nil _)); finis = ([], sym (append-nil _)); cells = (_, e) };
      libs = refl;
      count = refl;
      item = cell_law _ _ _ refl refl refl refl refl e;
      room = λ o n h. record { libs = omega arith; needs = omega arith; defs = omega arith; inits = omega arith; finis = omega arith; cells = omega arith };
    })
    c.requires.sound c.requires.starts c.raised-raised.ensures (c.item_reach.ensures t.text.now)
