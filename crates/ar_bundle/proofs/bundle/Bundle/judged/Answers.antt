use Rattle.std.proofs.Common.{rules, ◌<◌, length, subst, sym}
use Rattle.ar_judge.specs.Verdict.{sample_view}
use Rattle.ar_bundle.specs.Sound.{SuitsMetric}
use Rattle.ar_bundle.specs.Bundle.{bundle_of}
use Rattle.ar_bundle.proofs.Bundles.{judge_inside, reads_nothing}
use Rattle.ar_bundle.proofs.bundle.Bundle.judged.Goals as goal

pub bounds-judges-metric : goal.bounds-judges-metric
bounds-judges-metric c =
    let bundle = bundle_of c.self.inside.metrics.items c.self.inside.runs.items c.self.inside.entries.items in
    let reads = judge_inside bundle c.args.run c.index.result.now c.args.metric (sample_view c.args.sample.now) c.self.invariant (subst (λ b. c.args.run < length b.runs) (sym c.self.view_is) c.requires.run) c.index.ensures
    (subst (λ b. SuitsMetric b.metrics c.args.metric (sample_view c.args.sample.now)) (sym c.self.view_is) c.requires.suits) in
    search (rules, reads)

pub judge-requires : goal.judge-requires
judge-requires c =
    let bundle = bundle_of c.self.inside.metrics.items c.self.inside.runs.items c.self.inside.entries.items in
    let reads = judge_inside bundle c.args.run c.index.result.now c.args.metric (sample_view c.args.sample.now) c.self.invariant (subst (λ b. c.args.run < length b.runs) (sym c.self.view_is) c.requires.run) c.index.ensures
    (subst (λ b. SuitsMetric b.metrics c.args.metric (sample_view c.args.sample.now)) (sym c.self.view_is) c.requires.suits) in
    let judges = reads.is c.index-judges-metric.result in
    search (rules, judges)

pub returns : goal.returns
returns c =
    let bundle = bundle_of c.self.inside.metrics.items c.self.inside.runs.items c.self.inside.entries.items in
    let reads = judge_inside bundle c.args.run c.index.result.now c.args.metric (sample_view c.args.sample.now) c.self.invariant (subst (λ b. c.args.run < length b.runs) (sym c.self.view_is) c.requires.run) c.index.ensures
    (subst (λ b. SuitsMetric b.metrics c.args.metric (sample_view c.args.sample.now)) (sym c.self.view_is) c.requires.suits) in
    let judges = reads.is c.index-judges-metric.result in
    search (rules, judges)

pub returns-in_err-judge-clause-without_memory : goal.returns-in_err-judge-clause-without_memory
returns-in_err-judge-clause-without_memory c nothing =
    let bundle = bundle_of c.self.inside.metrics.items c.self.inside.runs.items c.self.inside.entries.items in
    let reads = judge_inside bundle c.args.run c.index.result.now c.args.metric (sample_view c.args.sample.now) c.self.invariant (subst (λ b. c.args.run < length b.runs) (sym c.self.view_is) c.requires.run) c.index.ensures
    (subst (λ b. SuitsMetric b.metrics c.args.metric (sample_view c.args.sample.now)) (sym c.self.view_is) c.requires.suits) in
    let nothing_read = reads_nothing bundle c.args.run c.index.result.now c.args.metric (sample_view c.args.sample.now) c.index-judges-metric.result reads in
    search (rules, nothing_read, nothing)
