use Rattle.std.proofs.Common.{rules}
use Rattle.ar_document.proofs.Naming.{new_name, old_name}
use Rattle.ar_document.proofs.names.add_name.Goals as goal

pub returns-then-is_some-clause-numbers : goal.returns-then-is_some-clause-numbers
returns-then-is_some-clause-numbers c = search (rules, new_name, old_name)

pub returns-clause-numbers : goal.returns-clause-numbers
returns-clause-numbers c = search (rules, new_name, old_name)
