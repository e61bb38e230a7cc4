use Rattle.std.proofs.Common.{arith}
use Rattle.ar_syntax.proofs.Stacks.{stacks}
use Rattle.ar_syntax.proofs.stack.inside.Goals as goal

pub loop-frame-preserved : goal.loop-frame-preserved
loop-frame-preserved c = grind (arith, stacks) steps 2000000

pub returns : goal.returns
returns c = grind (arith, stacks) steps 2000000
