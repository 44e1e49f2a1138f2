use Rattle.std.proofs.Common.{Option, Err, ap, sym, ◌∙◌, subst}
use Rattle.text.specs.Readers.{words}
use Rattle.tables.specs.declared.draft.Draft.{Draft}
use Rattle.tables.specs.Store.{Room, opened}
use Rattle.reading.proofs.Linewise.{passed_on, words_new, heads, lined_none, lined_mute, lined_lib, bad_lib, bad_outside, bad_item, lined_item, room_one}
use Rattle.reading.proofs.parts.Parts.line.Goals as goal

pub returns-in_default : goal.returns-in_default
returns-in_default c = lined_none c.args.self.now c.args.number c.args.held _ c.requires.kept (words_new c.new-rest.result c.args.self.now.tables.text.now c.args.part c.new-rest.ensures.pieces ∙ c.in_default.ensures.word)

pub returns-then-is_comment : goal.returns-then-is_comment
returns-then-is_comment c = lined_mute c.args.self.now c.args.number c.args.held c.part-keyword.result.now (words c.word.new.self) _ c.requires.kept (heads c.new-rest.result c.word.new.self c.args.self.now.tables.text.now c.args.part c.in-Some.first c.part-keyword.result.now c.new-rest.ensures.pieces c.in-Some.ensures.word c.in-Some.ensures.text c.part-keyword.ensures) c.if-is_comment.ensures

pub lib_line-requires-clause-room : goal.lib_line-requires-clause-room
lib_line-requires-clause-room c = room_one c.args.self.now.tables (opened c.args.held) c.part-keyword.result.now (words c.word.new.self) _ (heads c.new-rest.result c.word.new.self c.args.self.now.tables.text.now c.args.part c.in-Some.first c.part-keyword.result.now c.new-rest.ensures.pieces c.in-Some.ensures.word c.in-Some.ensures.text c.part-keyword.ensures) c.requires.room

pub returns-in_err-lib_line : goal.returns-in_err-lib_line
returns-in_err-lib_line c = passed_on _ _ _ _ c.from_residual.ensures (bad_lib c.args.self.now c.args.number c.args.held c.part-keyword.result.now (words c.word.new.self) _ _ c.in_err-lib_line.ensures (heads c.new-rest.result c.word.new.self c.args.self.now.tables.text.now c.args.part c.in-Some.first c.part-keyword.result.now c.new-rest.ensures.pieces c.in-Some.ensures.word c.in-Some.ensures.text c.part-keyword.ensures) c.if-is_comment.ensures c.if-is_lib.ensures)

pub returns-then-is_lib : goal.returns-then-is_lib
returns-then-is_lib c = lined_lib c.args.self.now c.lib_line.new.self c.args.number c.args.held c.in_ok-lib_line.field-0 c.part-keyword.result.now (words c.word.new.self) _ c.in_ok-lib_line.ensures (heads c.new-rest.result c.word.new.self c.args.self.now.tables.text.now c.args.part c.in-Some.first c.part-keyword.result.now c.new-rest.ensures.pieces c.in-Some.ensures.word c.in-Some.ensures.text c.part-keyword.ensures) c.if-is_comment.ensures c.if-is_lib.ensures

pub returns-in_default-held : goal.returns-in_default-held
returns-in_default-held c = bad_outside c.args.self.now c.args.number c.args.held c.part-keyword.result.now (words c.word.new.self) _ c.in_default-held.is (heads c.new-rest.result c.word.new.self c.args.self.now.tables.text.now c.args.part c.in-Some.first c.part-keyword.result.now c.new-rest.ensures.pieces c.in-Some.ensures.word c.in-Some.ensures.text c.part-keyword.ensures) c.if-is_comment.ensures c.if-is_lib.ensures ∙ ap Err (sym c.bad.ensures)

pub item_line-requires-clause-room : goal.item_line-requires-clause-room
item_line-requires-clause-room c = let Q : Option Draft → Type 0 = λ o. Room c.args.self.now.tables (opened o) 1 in subst Q c.in-Some-held.is (room_one c.args.self.now.tables (opened c.args.held) c.part-keyword.result.now (words c.word.new.self) _ (heads c.new-rest.result c.word.new.self c.args.self.now.tables.text.now c.args.part c.in-Some.first c.part-keyword.result.now c.new-rest.ensures.pieces c.in-Some.ensures.word c.in-Some.ensures.text c.part-keyword.ensures) c.requires.room)

pub returns-in_err-item_line : goal.returns-in_err-item_line
returns-in_err-item_line c = passed_on _ _ _ _ c.from_residual-in_err-item_line.ensures (bad_item c.args.self.now c.args.number c.args.held c.in-Some-held.draft c.part-keyword.result.now (words c.word.new.self) _ _ c.in-Some-held.is c.in_err-item_line.ensures (heads c.new-rest.result c.word.new.self c.args.self.now.tables.text.now c.args.part c.in-Some.first c.part-keyword.result.now c.new-rest.ensures.pieces c.in-Some.ensures.word c.in-Some.ensures.text c.part-keyword.ensures) c.if-is_comment.ensures c.if-is_lib.ensures)

pub returns : goal.returns
returns c = lined_item c.args.self.now c.item_line.new.self c.args.number c.args.held c.in-Some-held.draft c.in_ok-item_line.field-0 c.part-keyword.result.now (words c.word.new.self) _ c.in-Some-held.is c.in_ok-item_line.ensures (heads c.new-rest.result c.word.new.self c.args.self.now.tables.text.now c.args.part c.in-Some.first c.part-keyword.result.now c.new-rest.ensures.pieces c.in-Some.ensures.word c.in-Some.ensures.text c.part-keyword.ensures) c.if-is_comment.ensures c.if-is_lib.ensures
