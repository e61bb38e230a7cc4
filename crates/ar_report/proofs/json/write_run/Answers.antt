use Rattle.std.proofs.Common.{refl, subst}
use Rattle.ar_facts.proofs.Objects.{run_is}
use Rattle.ar_object.proofs.Texts.{last, object_is, then}
use Rattle.ar_object.specs.Written.{AddsValue}
use Rattle.ar_report.proofs.json.write_run.Goals as goal

pub returns : goal.returns
returns c =
    let written = object_is c.begin_object.ensures (then c.put_events.ensures (then c.put_metrics.ensures (then c.put_text.ensures (then c.put_text-2.ensures (last c.end_object.ensures))))) refl in
    subst (λ run. AddsValue run c.args.json.now.written c.end_object.new.self.written) (run_is c.args.bundle.now c.args.run.now c.args.entries.now c.args.state.now c.requires.state c.requires.effects)
    (rw (c.metrics.ensures, c.as_slice.ensures, c.as_str.ensures, c.phase_name.ensures, c.phase.ensures.shown) at written)
