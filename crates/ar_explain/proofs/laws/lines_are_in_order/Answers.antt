use Rattle.ar_explain.proofs.Order.{lines_in_order}
use Rattle.ar_explain.proofs.laws.lines_are_in_order.Goals as goal

pub returns : goal.returns
returns c = lines_in_order
