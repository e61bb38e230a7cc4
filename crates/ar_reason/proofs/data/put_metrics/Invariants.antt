use Rattle.std.proofs.Common.{drop, map}
use Rattle.ar_facts.specs.Facts.{facts_of_metrics}
use Rattle.ar_object.proofs.Texts.{Remains}
use Rattle.ar_reason.specs.ReasonData.{waiting_data}
use Rattle.ar_reason.proofs.data.put_metrics.Given as goal

-- the metrics that are left are still to be written
abbrev pub invariant-loop-number : goal.invariant-loop-number
invariant-loop-number l =
    Remains (map (waiting_data l.closer) (facts_of_metrics (drop l.number l.metrics) (drop l.number l.limits) (drop l.number l.state.phases) (drop l.number l.state.counts))) (map (waiting_data l.closer) (facts_of_metrics l.metrics l.limits l.state.phases l.state.counts))
    l.initial.json.written l.json.written
