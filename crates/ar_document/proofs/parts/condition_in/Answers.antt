use Rattle.std.proofs.Common.{arith}
use Rattle.std.proofs.lemmas.Grind.{elements}
use Rattle.ar_document.proofs.parts.condition_in.Goals as goal

pub returns-then-is_of : goal.returns-then-is_of
returns-then-is_of c = grind (arith, elements) steps 2000000
