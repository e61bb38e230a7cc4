use Rattle.std.proofs.Common.{arith}
use Rattle.ar_command_line.proofs.Parsing.{flag_is_read}
use Rattle.ar_command_line.proofs.command_line.has_flag.Goals as goal

pub returns : goal.returns
returns c = grind (arith, flag_is_read) steps 2000000
