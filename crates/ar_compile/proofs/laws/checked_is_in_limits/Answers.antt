use Rattle.std.proofs.Common.{rules}
use Rattle.ar_compile.proofs.Checked.{checked_in_limits}
use Rattle.ar_compile.proofs.laws.checked_is_in_limits.Goals as goal

pub returns : goal.returns
returns c = search (rules, checked_in_limits)
