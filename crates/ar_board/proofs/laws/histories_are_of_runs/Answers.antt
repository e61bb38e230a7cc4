use Rattle.std.proofs.Common.{rules}
use Rattle.ar_board.proofs.CoreLaws.{histories_of_runs}
use Rattle.ar_board.proofs.laws.histories_are_of_runs.Goals as goal

pub returns : goal.returns
returns c = search (rules, histories_of_runs)
