use Rattle.links.proofs.Order.{order_right}
use Rattle.links.proofs.order_right.Goals as goal

pub returns : goal.returns
returns c = order_right
