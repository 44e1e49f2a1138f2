use Rattle.std.proofs.Common.{◌∙◌, ap, ◌+◌}
use Rattle.libs.proofs.Places.{count_lines}
use Rattle.libs.proofs.sources.lines.Goals as goal

pub returns : goal.returns
returns c = ap (λ n. n + 1) c.line_ends.ensures ∙ count_lines 10 c.args.file.now
