use Rattle.std.proofs.Common.{◌∙◌, refl, sym}
use Rattle.std.proofs.lemmas.Result.{err_from_is_err_and}
use Rattle.ar_document.specs.Private.Opened.{opened_view}
use Rattle.ar_document.proofs.Answering.{both_made, made_refused, parts_are_bundle, refuses}
use Rattle.ar_document.proofs.bundle.bundle_with.Goals as goal

pub parts_of-parts-requires : goal.parts_of-parts-requires
parts_of-parts-requires c = rw (c.deref.ensures.value, c.into_declared-template.ensures.metrics, c.into_declared-template.ensures.template) c.requires.opened.each

pub returns-in_err-metrics : goal.returns-in_err-metrics
returns-in_err-metrics c document opens given =
    let error = err_from_is_err_and c.from_residual.result c.from_residual.ensures.1 in
    let refusal = c.in_err-metrics.field-0.0 in
    let are = rw (c.deref.ensures.value, c.into_declared-template.ensures.metrics, c.into_declared-template.ensures.template, c.into_declared-template.ensures.runs) at c.parts_of-parts.ensures.parts in
    let refused = rw (c.deref.ensures.value, c.into_declared-template.ensures.metrics, c.into_declared-template.ensures.template, c.into_declared-template.ensures.runs) at c.parts_of-parts.ensures.refused in
    rw (error.1, error.2)
    (refuses document refusal (made_refused (opened_view c.args.opened) document opens c.parts_of-parts.result c.args.entries are refused given refusal (sym c.both_ok.ensures ∙ c.in_err-metrics.ensures.err)))

pub of_parts-requires : goal.of_parts-requires
of_parts-requires c =
    let both = both_made c.parts_of-parts.result c.args.entries _ (sym c.both_ok.ensures ∙ c.in_ok-metrics.ensures.ok.0) in
    let are = rw (c.deref.ensures.value, c.into_declared-template.ensures.metrics, c.into_declared-template.ensures.template, c.into_declared-template.ensures.runs, both.0) at c.parts_of-parts.ensures.parts in
    let fit = rw both.1 at c.requires.fit in
    rw (c.in_ok-metrics.ensures.ok.1, c.into_declared-template.ensures.metrics)
    (parts_are_bundle c.args.opened c.in_ok-metrics.parts.items c.in_ok-metrics.entries.items c.requires.opened are fit.1 fit.0)

pub returns : goal.returns
returns c document opens given =
    let both = both_made c.parts_of-parts.result c.args.entries _ (sym c.both_ok.ensures ∙ c.in_ok-metrics.ensures.ok.0) in
    let are = rw (c.deref.ensures.value, c.into_declared-template.ensures.metrics, c.into_declared-template.ensures.template, c.into_declared-template.ensures.runs, both.0) at c.parts_of-parts.ensures.parts in
    let entries = rw both.1 at given in
    record {
      opened = opened_view c.args.opened;
      opens = opens;
      metrics = rw (c.of_parts.ensures, c.in_ok-metrics.ensures.ok.1, c.into_declared-template.ensures.metrics) refl;
      runs = rw c.of_parts.ensures are;
      entries = rw c.of_parts.ensures entries;
    }
