use Rattle.std.proofs.Common.{rules}
use Rattle.ar_document.proofs.Naming.{run_inside}
use Rattle.ar_document.proofs.entries.run_number.Goals as goal

pub returns-clause-inside : goal.returns-clause-inside
returns-clause-inside c = search (rules, run_inside)
