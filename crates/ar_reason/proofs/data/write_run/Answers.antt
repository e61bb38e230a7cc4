use Rattle.std.proofs.Common.{refl, subst}
use Rattle.serde_json.specs.View.{view}
use Rattle.ar_object.proofs.Texts.{last, object_is, then}
use Rattle.ar_object.specs.Written.{AddsValue}
use Rattle.ar_reason.proofs.Runs.{data_is}
use Rattle.ar_reason.proofs.data.write_run.Goals as goal

pub returns : goal.returns
returns c =
    let written = object_is c.begin_object.ensures (then c.in_ok-put_reasons.ensures (then c.put_metrics.ensures (then c.put_text.ensures (then c.put_text-2.ensures (then c.put_run_waits.ensures (last c.end_object.ensures)))))) refl in
    subst (λ run. AddsValue run c.args.json.now.written c.end_object.new.self.written)
    (data_is (view c.args.document.now) c.args.bundle.now c.args.chosen c.args.run.now c.args.entries.now c.args.state.now c.in_ok-found.found.steps.items c.in_ok-found.found.closer c.requires.state c.in_ok-found.ensures.steps c.in_ok-found.ensures.closer)
    (rw (c.deref-2.ensures.value, c.metrics-metrics.ensures, c.as_slice-limits.ensures, c.as_str.ensures, c.phase_name.ensures, c.phase.ensures.shown) at written)
