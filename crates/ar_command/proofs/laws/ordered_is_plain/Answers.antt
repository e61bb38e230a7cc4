use Rattle.ar_command.proofs.OneReport.{ordered_is_plain}
use Rattle.ar_command.proofs.laws.ordered_is_plain.Goals as goal

pub returns : goal.returns
returns c = ordered_is_plain
