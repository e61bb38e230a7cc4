use Rattle.std.proofs.Common.{arith}
use Rattle.ar_command_line.proofs.Parsing.{first_text}
use Rattle.ar_command_line.proofs.command_line.explain_command.Goals as goal

pub returns-in-Some-selection_of : goal.returns-in-Some-selection_of
returns-in-Some-selection_of c = grind (arith, first_text) steps 2000000

pub returns-in-None : goal.returns-in-None
returns-in-None c = grind (arith, first_text) steps 2000000
