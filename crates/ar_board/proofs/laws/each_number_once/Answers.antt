use Rattle.std.proofs.Common.{rules}
use Rattle.ar_board.proofs.CoreLaws.{each_once}
use Rattle.ar_board.proofs.laws.each_number_once.Goals as goal

pub returns : goal.returns
returns c = search (rules, each_once)
