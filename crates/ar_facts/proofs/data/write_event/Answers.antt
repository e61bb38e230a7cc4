use Rattle.std.proofs.Common.{arith}
use Rattle.ar_facts.proofs.Lines.{facts_found_are, found_inside}
use Rattle.ar_facts.proofs.data.write_event.Goals as goal

pub returns : goal.returns
returns c = grind (arith, found_inside, facts_found_are) steps 2000000
