use Rattle.std.proofs.Common.{◌≡◌, ◌∙◌, rules, ap, length}
use Rattle.std.specs.Option.{unwrap_or}
use Rattle.text.proofs.Cuts.{run_position}
use Rattle.text.proofs.words.run_len.Goals as goal

pub returns-clause-value : goal.returns-clause-value
returns-clause-value c =
    let f : c.unwrap_or.result ≡ unwrap_or c.first.result (length c.args.bytes.now) = search rules in
    f ∙ ap (λ o. unwrap_or o (length c.args.bytes.now)) c.first.ensures ∙ run_position c.args.end c.args.bytes.now
