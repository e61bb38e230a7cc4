use Rattle.std.proofs.Common.{drop, flat_map}
use Rattle.ar_facts.specs.Facts.{facts_of_metrics}
use Rattle.ar_object.proofs.Texts.{Remains}
use Rattle.ar_reason.specs.ReasonData.{awaited}
use Rattle.ar_reason.proofs.data.write_all_awaited.Given as goal

-- the metrics that are left are still to be written
abbrev pub invariant-loop-number : goal.invariant-loop-number
invariant-loop-number l =
    Remains (flat_map awaited (facts_of_metrics (drop l.number l.metrics) (drop l.number l.limits) (drop l.number l.state.phases) (drop l.number l.state.counts))) (flat_map awaited (facts_of_metrics l.metrics l.limits l.state.phases l.state.counts))
    l.initial.json.written l.json.written
