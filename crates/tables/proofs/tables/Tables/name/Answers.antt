use Rattle.std.specs.Prelude.{Some}
use Rattle.std.proofs.Common.{ap, ◌∙◌}
use Rattle.std.specs.Option.{option_map}
use Rattle.library.specs.Library.{Library}
use Rattle.tables.specs.Store.{store, library_at}
use Rattle.tables.proofs.Looking.{no_row, row_is}
use Rattle.tables.proofs.tables.Tables.name.Goals as goal

pub returns-in_err-row : goal.returns-in_err-row
unfolding store
returns-in_err-row c = ap (λ r. (option_map (λ x. x.now) r)) c.from_residual.ensures ∙ no_row (store c.args.self.now) c.args.i (λ (l : Library). Some l.name) c.in_err-row.ensures.value

pub returns : goal.returns
unfolding store library_at
returns c = ap Some (c.slice.ensures ∙ c.decode.ensures c.args.self.now.text.now) ∙ row_is (store c.args.self.now) c.args.i c.in_ok-row.row.now (λ (l : Library). Some l.name) c.in_ok-row.ensures.value
