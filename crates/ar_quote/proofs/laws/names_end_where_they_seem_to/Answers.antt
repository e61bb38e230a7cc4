use Rattle.std.proofs.Common.{arith}
use Rattle.ar_quote.proofs.Ended.{names_end}
use Rattle.ar_quote.proofs.laws.names_end_where_they_seem_to.Goals as goal

pub returns : goal.returns
returns c = grind (arith, names_end) steps 2000000
