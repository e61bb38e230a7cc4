use Rattle.std.proofs.Common.{arith}
use Rattle.ar_syntax.proofs.Words.{each_is_named}
use Rattle.ar_syntax.proofs.laws.words_are_named.Goals as goal

pub returns : goal.returns
returns c = grind (arith, each_is_named) steps 2000000
