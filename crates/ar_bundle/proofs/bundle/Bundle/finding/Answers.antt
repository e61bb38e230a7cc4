use Rattle.std.proofs.Common.{◌<◌, length, subst, sym}
use Rattle.ar_judge.specs.Verdict.{sample_view}
use Rattle.ar_bundle.specs.Sound.{SuitsMetric}
use Rattle.ar_bundle.specs.Bundle.{bundle_of}
use Rattle.ar_bundle.proofs.Bundles.{measure_suits}
use Rattle.ar_bundle.proofs.bundle.Bundle.finding.Goals as goal

pub judged-requires-clause-suits : goal.judged-requires-clause-suits
judged-requires-clause-suits c =
    let bundle = bundle_of c.self.inside.metrics.items c.self.inside.runs.items c.self.inside.entries.items in
    subst (λ b. SuitsMetric b.metrics c.in-Measure.metric (sample_view c.in-Measure.sample)) c.self.view_is
    (measure_suits bundle c.args.number c.index-entry.result.now c.in-Measure.metric c.in-Measure.sample c.self.invariant (subst (λ b. c.args.number < length b.entries) (sym c.self.view_is) c.requires) c.index-entry.ensures c.in-Measure.is)
