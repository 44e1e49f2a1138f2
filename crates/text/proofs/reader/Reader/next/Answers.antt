use Rattle.std.proofs.Common.{◌≡◌, ◌+◌, Some, rules}
use Rattle.text.specs.Readers.{pieces, size}
use Rattle.text.proofs.Middle.{mid_pieces, mid_sizes, rest_behind}
use Rattle.text.proofs.reader.Reader.next.Goals as goal

pub returns-clause-pieces : goal.returns-clause-pieces
unfolding pieces
returns-clause-pieces c =
    let a : c.args.self.now.rest ≡ Some c.in_ok-start.field-0 = search rules in
    let b : c.then_some-self.result ≡ rest_behind (c.in_ok-start.field-0.start + c.run_len.result) c.in_ok-start.field-0.end = search rules in
    let w = c.args.self.now.within c.in_ok-start.field-0 a in
    rw (a, b) (mid_pieces c.args.end c.args.self.now.text.now _ _ c.run_len.result w.0 w.1 c.run_len.ensures.value)

pub returns-clause-falls : goal.returns-clause-falls
unfolding size
returns-clause-falls c =
    let a : c.args.self.now.rest ≡ Some c.in_ok-start.field-0 = search rules in
    let b : c.then_some-self.result ≡ rest_behind (c.in_ok-start.field-0.start + c.run_len.result) c.in_ok-start.field-0.end = search rules in
    let w = c.args.self.now.within c.in_ok-start.field-0 a in
    rw (a, b) (mid_sizes c.args.self.now.text.now _ _ c.run_len.result w.0 w.1 c.run_len.ensures.bound)
