use Rattle.std.proofs.Common.{arith}
use Rattle.ar_command_line.proofs.Parsing.{first_text}
use Rattle.ar_command_line.proofs.command_line.format_of.Goals as goal

pub returns-in-Some : goal.returns-in-Some
returns-in-Some c = grind (arith, first_text) steps 2000000

pub returns-in-None : goal.returns-in-None
returns-in-None c = grind (arith, first_text) steps 2000000
