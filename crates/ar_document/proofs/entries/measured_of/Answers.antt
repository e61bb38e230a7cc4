use Rattle.std.proofs.lemmas.Grind.{elements}
use Rattle.std.proofs.Common.{arith, ◌≡◌, ◌∙◌, Some, ap, map, subst, sym}
use Rattle.std.specs.Prelude.{option_map, slice_get}
use Rattle.std.proofs.lemmas.Option.{slice_get-map}
use Rattle.ar_value.specs.View.{shape_view}
use Rattle.ar_value.specs.declared.shape.Shape.{Shape as Declared}
use Rattle.ar_judge.specs.Verdict.{sample_view}
use Rattle.ar_bundle.specs.Sound.{SampleSuits}
use Rattle.ar_document.specs.Entries.{sample_of}
use Rattle.ar_document.specs.Opening.{metric_view}
use Rattle.ar_document.specs.Private.Opened.{metric_names, opened_view}
use Rattle.ar_document.specs.declared.error.BundleError.TheVariants.{UnknownMetric}
use Rattle.ar_document.proofs.Sampling.{found_at, measured_by, metric_at}
use Rattle.ar_document.proofs.entries.measured_of.Goals as goal

pub returns-clause-exact : goal.returns-clause-exact
returns-clause-exact c given is =
    let opened = c.args.opened.now in
    let at = c.in_ok-metric.metric in
    let found = found_at c.deref.result.now at c.get.result c.in_ok-measurer.measurer (UnknownMetric c.args.number) c.in_ok-measurer.ensures.value c.get.ensures.lookup.1 c.get.ensures.lookup.3 in
    let there : slice_get opened.measurers.items at ≡ Some c.in_ok-measurer.measurer.now = rw c.deref.ensures.value at found in
    let metric = metric_at opened.metrics.items opened.measurers.items at c.in_ok-measurer.measurer.now c.requires.opened.measurers there in
    measured_by (opened_view opened) c.args.number c.args.run c.args.name.now given c.number_of.result at (metric_view metric.0) (sample_view c.in_ok-sample.sample)
    (c.number_of.ensures (metric_names (map metric_view opened.metrics.items)) c.requires.opened.metric_numbers) c.in_ok-metric.ensures.value
    (slice_get-map metric_view opened.metrics.items at ∙ ap (option_map metric_view) metric.1)
    (c.in_ok-sample.ensures.exact given is ∙ ap (λ (shape : Declared). sample_of (shape_view shape) given) (sym metric.2))

pub returns-clause-entry : goal.returns-clause-entry
returns-clause-entry c =
    let opened = c.args.opened.now in
    let at = c.in_ok-metric.metric in
    let found = found_at c.deref.result.now at c.get.result c.in_ok-measurer.measurer (UnknownMetric c.args.number) c.in_ok-measurer.ensures.value c.get.ensures.lookup.1 c.get.ensures.lookup.3 in
    let there : slice_get opened.measurers.items at ≡ Some c.in_ok-measurer.measurer.now = rw c.deref.ensures.value at found in
    let metric = metric_at opened.metrics.items opened.measurers.items at c.in_ok-measurer.measurer.now c.requires.opened.measurers there in
    let suits = subst (λ (shape : Declared). SampleSuits (shape_view shape) (sample_view c.in_ok-sample.sample)) (sym metric.2) c.in_ok-sample.ensures.suits in
    record { run = c.requires.run; what = record { part = metric.0; there = metric.1; suits = suits } }

pub returns-in_err-measurer : goal.returns-in_err-measurer
returns-in_err-measurer c = grind (arith, elements) steps 2000000
