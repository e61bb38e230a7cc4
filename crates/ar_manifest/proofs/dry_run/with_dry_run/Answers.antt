use Rattle.std.proofs.Common.{arith}
use Rattle.std.proofs.lemmas.Grind.{common_steps}
use Rattle.ar_manifest.proofs.dry_run.with_dry_run.Goals as goal

pub returns : goal.returns
returns c = grind (arith, common_steps)
