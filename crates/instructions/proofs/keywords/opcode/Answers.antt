use Rattle.std.specs.Prelude.{codes}
use Rattle.std.proofs.Common.{◌≡◌, refl, rules, arith}
use Rattle.std.proofs.lemmas.Slice.Eq.{text_from_reads}
use Rattle.instructions.proofs.keywords.opcode.Goals as goal

-- words of five letters
pub returns-in-callr : goal.returns-in-callr
returns-in-callr c = let e : c.args.keyword.now ≡ codes "callr" = text_from_reads _ _ (omega arith) (search rules) in rw e refl

pub returns-in-close : goal.returns-in-close
returns-in-close c = let e : c.args.keyword.now ≡ codes "close" = text_from_reads _ _ (omega arith) (search rules) in rw e refl
