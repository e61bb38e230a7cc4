use Rattle.std.proofs.Common.{rules}
use Rattle.ar_compile.proofs.Sequences.{as_many}
use Rattle.ar_compile.proofs.limits.is_few.Goals as goal

pub returns : goal.returns
returns c = search (rules, as_many)
