use Rattle.std.proofs.Common.{rules}
use Rattle.ar_value.proofs.Marks.{marked, unmarked}
use Rattle.ar_value.proofs.decimal_text.scale_of.Goals as goal

pub returns-then-at-text-clause-value : goal.returns-then-at-text-clause-value
returns-then-at-text-clause-value c = search (rules, marked, unmarked)

pub returns-else-at-text-clause-value : goal.returns-else-at-text-clause-value
returns-else-at-text-clause-value c = search (rules, marked, unmarked)
