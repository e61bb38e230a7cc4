use Rattle.std.proofs.Common.{rules}
use Rattle.ar_judge.proofs.Headline.{condition_holds}
use Rattle.ar_judge.proofs.Ready.{ready}
use Rattle.ar_judge.proofs.Running.{built, is_unsafe}
use Rattle.ar_judge.proofs.condition.Condition.build.Goals as goal

pub returns-in_ok-of-in-Ok-clause-built : goal.returns-in_ok-of-in-Ok-clause-built
returns-in_ok-of-in-Ok-clause-built c = search (rules, built)

pub returns-in_ok-of-in-Ok-clause-headline : goal.returns-in_ok-of-in-Ok-clause-headline
returns-in_ok-of-in-Ok-clause-headline c = condition_holds _ _ _ (returns-in_ok-of-in-Ok-clause-built c)

pub returns-in-Err-clause-built : goal.returns-in-Err-clause-built
returns-in-Err-clause-built c = search (rules, is_unsafe)

pub invariant_of-result : goal.invariant_of-result
invariant_of-result c = search (rules, ready)
