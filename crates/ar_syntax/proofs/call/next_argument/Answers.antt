use Rattle.std.proofs.Common.{arith}
use Rattle.ar_syntax.proofs.Openers.{no_argument_left, argument_left}
use Rattle.ar_syntax.proofs.call.next_argument.Goals as goal

pub returns-then-len-arity : goal.returns-then-len-arity
returns-then-len-arity c = grind (arith, argument_left, no_argument_left) steps 2000000

pub returns-else-len-arity : goal.returns-else-len-arity
returns-else-len-arity c = grind (arith, argument_left, no_argument_left) steps 2000000
