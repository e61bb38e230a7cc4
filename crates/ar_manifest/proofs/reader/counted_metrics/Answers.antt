use Rattle.std.proofs.Common.{rules, arith}
use Rattle.std.proofs.lemmas.Grind.{common_steps}
use Rattle.ar_manifest.proofs.Lists.{counted_many, counted_some}
use Rattle.ar_manifest.proofs.reader.counted_metrics.Goals as goal

pub returns-then-is_empty : goal.returns-then-is_empty
returns-then-is_empty c = grind (arith, common_steps)

pub returns-then-list-gt-MOST_METRICS : goal.returns-then-list-gt-MOST_METRICS
returns-then-list-gt-MOST_METRICS c = search (rules, counted_many, counted_some)

pub returns : goal.returns
returns c = search (rules, counted_many, counted_some)
