use Rattle.std.specs.Prelude.{codes}
use Rattle.std.proofs.Common.{◌≡◌, rules, arith, Err}
use Rattle.std.proofs.lemmas.Slice.Eq.{text_from_reads}
use Rattle.lines.proofs.cells.cell.Goals as goal

pub returns-in_ok-symbol-in-ref : goal.returns-in_ok-symbol-in-ref
returns-in_ok-symbol-in-ref c = let e : c.args.keyword.now ≡ codes "ref" = text_from_reads _ _ (omega arith) (search rules) in rw e (search rules)

pub returns-in_ok-only-in-word : goal.returns-in_ok-only-in-word
returns-in_ok-only-in-word c = let e : c.args.keyword.now ≡ codes "word" = text_from_reads _ _ (omega arith) (search rules) in rw e (search rules)

pub returns-in_ok-only-in-slot : goal.returns-in_ok-only-in-slot
returns-in_ok-only-in-slot c = let e : c.args.keyword.now ≡ codes "slot" = text_from_reads _ _ (omega arith) (search rules) in rw e (search rules)

pub returns-in_ok-only-in-name : goal.returns-in_ok-only-in-name
returns-in_ok-only-in-name c = let e : c.args.keyword.now ≡ codes "name" = text_from_reads _ _ (omega arith) (search rules) in rw e (search rules)

pub returns-in_err-instruction-in_default : goal.returns-in_err-instruction-in_default
returns-in_err-instruction-in_default c = let e : c.from_residual-in_err-instruction-in_default.result ≡ Err c.in_err-instruction-in_default.field-0.0 = search rules in rw e (search rules)
