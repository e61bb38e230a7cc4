use Rattle.std.proofs.Common.{rules}
use Rattle.ar_compile.proofs.Tables.{found_here, not_here, not_there}
use Rattle.ar_compile.proofs.table.number_of.Goals as goal

pub returns-then-eq-clause-number : goal.returns-then-eq-clause-number
returns-then-eq-clause-number c = search (rules, found_here, not_here, not_there)

pub loop-number-preserved : goal.loop-number-preserved
loop-number-preserved c = search (rules, found_here, not_here, not_there)

pub returns-clause-number : goal.returns-clause-number
returns-clause-number c = search (rules, found_here, not_here, not_there)
