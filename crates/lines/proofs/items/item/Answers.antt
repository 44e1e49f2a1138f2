use Rattle.std.specs.Prelude.{codes}
use Rattle.std.proofs.Common.{◌≡◌, rules, arith, Err, false, refl}
use Rattle.std.proofs.lemmas.Slice.Eq.{text_from_reads}
use Rattle.base.specs.Names.{same}
use Rattle.text.specs.Readers.{words}
use Rattle.library.specs.Lines.{cell_line}
use Rattle.lines.proofs.items.item.Goals as goal

pub returns-in_ok-symbol-in-def : goal.returns-in_ok-symbol-in-def
returns-in_ok-symbol-in-def c = let e : c.args.keyword.now ≡ codes "def" = text_from_reads _ _ (omega arith) (search rules) in rw e (search rules)

pub returns-in_ok-only-in-init : goal.returns-in_ok-only-in-init
returns-in_ok-only-in-init c = let e : c.args.keyword.now ≡ codes "init" = text_from_reads _ _ (omega arith) (search rules) in rw e (search rules)

pub returns-in_ok-only-in-fini : goal.returns-in_ok-only-in-fini
returns-in_ok-only-in-fini c = let e : c.args.keyword.now ≡ codes "fini" = text_from_reads _ _ (omega arith) (search rules) in rw e (search rules)

pub returns-in_ok-only-in-needs : goal.returns-in_ok-only-in-needs
returns-in_ok-only-in-needs c = let e : c.args.keyword.now ≡ codes "needs" = text_from_reads _ _ (omega arith) (search rules) in rw e (search rules)

pub returns-in_ok-end-in-inward : goal.returns-in_ok-end-in-inward
returns-in_ok-end-in-inward c = let e : c.args.keyword.now ≡ codes "inward" = text_from_reads _ _ (omega arith) (search rules) in rw e (search rules)

pub returns-in_err-cell-in_default : goal.returns-in_err-cell-in_default
returns-in_err-cell-in_default c =
    let e : c.from_residual-in_err-cell-in_default.result ≡ Err c.in_err-cell-in_default.field-0.0 = search rules in
    let f : cell_line c.args.keyword.now (words c.args.line.now) ≡ Err c.in_err-cell-in_default.field-0.0 = search rules in
    let i : same c.args.keyword.now (codes "inward") ≡ false = search rules in
    let n : same c.args.keyword.now (codes "needs") ≡ false = search rules in
    let d : same c.args.keyword.now (codes "def") ≡ false = search rules in
    let k : same c.args.keyword.now (codes "init") ≡ false = search rules in
    let l : same c.args.keyword.now (codes "fini") ≡ false = search rules in
    rw (e, i, n, d, k, l, f) refl
