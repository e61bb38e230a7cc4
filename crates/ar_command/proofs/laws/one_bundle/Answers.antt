use Rattle.std.proofs.Common.{arith}
use Rattle.ar_command.proofs.OneText.{one_bundle}
use Rattle.ar_command.proofs.laws.one_bundle.Goals as goal

pub returns : goal.returns
returns c = grind (arith, one_bundle) steps 2000000
