use Rattle.std.proofs.Common.{rules}
use Rattle.ar_board.proofs.CoreOpening.{found_next}
use Rattle.ar_board.proofs.core_state.findings_of.Goals as goal

pub loop-number-preserved : goal.loop-number-preserved
loop-number-preserved c = search (rules, found_next)
