use Rattle.std.proofs.Common.{rules}
use Rattle.cases_of_values.proofs.Values.{gives_any}
use Rattle.cases_of_values.proofs.members.value_of.Goals as goal

pub returns-in-Err : goal.returns-in-Err
returns-in-Err c = search (rules, gives_any)
