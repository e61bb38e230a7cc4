use Rattle.std.proofs.Common.{rules}
use Rattle.ar_board.proofs.CoreLaws.{each_once, histories_of_runs, histories_rise}
use Rattle.ar_board.proofs.core_state.core_run_ordered.Goals as goal

pub returns-clause-all : goal.returns-clause-all
returns-clause-all c = record { once = search (rules, each_once); histories = search (rules, histories_of_runs) }

pub returns-clause-in_order : goal.returns-clause-in_order
returns-clause-in_order c = search (rules, histories_rise)
