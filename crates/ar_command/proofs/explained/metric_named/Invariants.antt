use Rattle.std.proofs.Common.{◌≡◌, drop}
use Rattle.ar_command.specs.Private.Counting.{among_all, metric_names}
use Rattle.ar_document.specs.Opening.{index_of_name}
use Rattle.ar_command.proofs.explained.metric_named.Given as goal

-- the metric isn't among those so far
abbrev pub invariant-loop-number : goal.invariant-loop-number
invariant-loop-number l = index_of_name l.name (metric_names l.metrics) ≡ among_all l.number (index_of_name l.name (metric_names (drop l.number l.metrics)))
