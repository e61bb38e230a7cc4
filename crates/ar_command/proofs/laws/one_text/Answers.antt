use Rattle.ar_command.proofs.OneReason.{one_text}
use Rattle.ar_command.proofs.laws.one_text.Goals as goal

pub returns : goal.returns
returns c = one_text
