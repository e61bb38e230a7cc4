use Rattle.std.proofs.Common.{rules}
use Rattle.ar_board.proofs.CoreLaws.{each_once, histories_of_runs}
use Rattle.ar_board.proofs.core_state.core_run.Goals as goal

pub returns-clause-all : goal.returns-clause-all
returns-clause-all c = record { once = search (rules, each_once); histories = search (rules, histories_of_runs) }
