use Rattle.reading.proofs.Linewise.{named_shut, shut}
use Rattle.reading.proofs.parts.Parts.close.Goals as goal

pub invariant_of-self-clause-named : goal.invariant_of-self-clause-named
invariant_of-self-clause-named c = named_shut c.args.self.now _ _ c.args.draft c.slice-name.result.now c.bucket-h.result c.insert.result c.requires.kept c.requires.room c.close.ensures c.slice-name.ensures c.bucket-h.ensures.value c.bucket-h.ensures.bound c.insert.ensures.room c.insert.ensures.heads c.insert.ensures.grown

pub returns : goal.returns
returns c = shut c.args.self.now _ c.args.draft c.requires.kept c.close.ensures
