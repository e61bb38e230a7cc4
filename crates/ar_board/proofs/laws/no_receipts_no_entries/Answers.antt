use Rattle.std.proofs.Common.{arith}
use Rattle.ar_board.proofs.Unposted.{nothing_stored}
use Rattle.ar_board.proofs.laws.no_receipts_no_entries.Goals as goal

pub returns : goal.returns
returns c = grind (arith, nothing_stored) steps 2000000
