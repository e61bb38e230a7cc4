use Rattle.std.proofs.Common.{rules}
use Rattle.ar_workers.proofs.Judged.{judged_next, exact_next}
use Rattle.ar_workers.proofs.judging.JudgingDesk.settle.Goals as goal

pub returns : goal.returns
returns g c = search (rules, judged_next, exact_next)
