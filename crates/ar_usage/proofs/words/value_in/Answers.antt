use Rattle.std.proofs.Common.{arith}
use Rattle.ar_usage.proofs.Refused.{no_name}
use Rattle.ar_usage.proofs.words.value_in.Goals as goal

pub returns-in_err-strip_prefix : goal.returns-in_err-strip_prefix
returns-in_err-strip_prefix c = grind (arith, no_name) steps 2000000
