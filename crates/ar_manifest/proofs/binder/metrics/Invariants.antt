use Rattle.std.proofs.Common.{◌≡◌, [], drop, length, map}
use Rattle.ar_value.specs.Answer.{each_after}
use Rattle.ar_manifest.specs.Private.Within.{next_kept}
use Rattle.ar_manifest.proofs.First.{StaysAtFirst}
use Rattle.ar_manifest.proofs.binder.metrics.Given as goal

-- the metrics so far, with the rest of the list bound after them, are all metrics; there are as many as were examined
abbrev pub invariant-loop-metric : goal.invariant-loop-metric
invariant-loop-metric l = record {
  so_far : each_after (next_kept l.arguments l.own l.fn.shortens) l.metrics.items (map (λ metric. metric) (drop l.metric-index l.list)) ≡ each_after (next_kept l.arguments l.own l.fn.shortens) [] l.list;
  count : length l.metrics.items ≡ l.metric-index;
  stays : StaysAtFirst l.arguments l.own l.list l.metric-index;
}
