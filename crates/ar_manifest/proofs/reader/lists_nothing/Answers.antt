use Rattle.std.proofs.Common.{arith}
use Rattle.std.proofs.lemmas.Grind.{common_steps}
use Rattle.ar_manifest.proofs.reader.lists_nothing.Goals as goal

pub returns-in-Some-list_of : goal.returns-in-Some-list_of
returns-in-Some-list_of c = grind (arith, common_steps)
