use Rattle.std.proofs.Common.{rules}
use Rattle.ar_board.proofs.CoreLaws.{histories_rise}
use Rattle.ar_board.proofs.laws.ordered_histories_rise.Goals as goal

pub returns : goal.returns
returns c = search (rules, histories_rise)
