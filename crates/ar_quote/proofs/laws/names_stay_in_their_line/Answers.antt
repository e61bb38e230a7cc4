use Rattle.std.proofs.Common.{arith}
use Rattle.ar_quote.proofs.Still.{names_stay}
use Rattle.ar_quote.proofs.laws.names_stay_in_their_line.Goals as goal

pub returns : goal.returns
returns c = grind (arith, names_stay) steps 2000000
