use Rattle.needs.proofs.ByNumber.{closure_by_number}
use Rattle.needs.proofs.closure.closure_by_number.Goals as goal

pub returns : goal.returns
returns c = closure_by_number
