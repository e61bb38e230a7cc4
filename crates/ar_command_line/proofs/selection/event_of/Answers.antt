use Rattle.std.proofs.Common.{arith}
use Rattle.ar_command_line.proofs.Parsing.{first_text}
use Rattle.ar_command_line.proofs.selection.event_of.Goals as goal

pub returns-in_err-event_named-in-Some : goal.returns-in_err-event_named-in-Some
returns-in_err-event_named-in-Some c = grind (arith, first_text) steps 2000000

pub returns-in_ok-event_named-in-Some : goal.returns-in_ok-event_named-in-Some
returns-in_ok-event_named-in-Some c = grind (arith, first_text) steps 2000000

pub returns-in-None : goal.returns-in-None
returns-in-None c = grind (arith, first_text) steps 2000000
