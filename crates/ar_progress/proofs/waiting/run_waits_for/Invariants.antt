use Rattle.std.proofs.Common.{◌≡◌, [], drop, string_bytes}
use Rattle.ar_facts.specs.Facts.{facts_of_metrics}
use Rattle.ar_progress.specs.Waiting.{with_metrics}
use Rattle.ar_progress.proofs.waiting.run_waits_for.Given as goal

-- the words so far, with the metrics that are left, are those of all
abbrev pub invariant-loop-number : goal.invariant-loop-number
invariant-loop-number l = with_metrics (string_bytes l.words) (facts_of_metrics (drop l.number l.metrics) (drop l.number l.limits) (drop l.number l.state.phases) (drop l.number l.state.counts)) ≡ with_metrics [] (facts_of_metrics l.metrics l.limits l.state.phases l.state.counts)
