use Rattle.ar_board.proofs.CoreLaws.{least_waits}
use Rattle.ar_board.proofs.laws.parked_numbers_wait.Goals as goal

pub returns : goal.returns
returns c bundle workers places run number others steps is least = least_waits bundle workers places run number others steps is least
