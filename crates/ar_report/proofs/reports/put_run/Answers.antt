use Rattle.std.proofs.Common.{◌≡◌, ◌++◌, flat_map, string_bytes, subst}
use Rattle.ar_facts.specs.Facts.{facts_of_metrics}
use Rattle.ar_facts.specs.Report.{metric_line, run_line}
use Rattle.ar_facts.proofs.Lines.{on_ok, run_is}
use Rattle.ar_report.proofs.reports.put_run.Goals as goal

pub returns : goal.returns
returns c =
    let line = subst (λ phase. string_bytes c.put_run_line.new.out ≡ string_bytes c.args.out.now ++ run_line c.args.run.now.name phase) c.phase.ensures.shown c.in_ok-put_run_line.ensures in
    let shown : string_bytes c.put_metrics.new.out ≡ string_bytes c.put_run_line.new.out ++ flat_map metric_line (facts_of_metrics c.metrics.result.now c.as_slice.result.now c.args.state.now.phases c.args.state.now.counts) = c.in_ok-put_metrics.ensures in
    let metrics = rw (c.metrics.ensures, c.as_slice.ensures) at shown in
    on_ok c.put_events.result
    (run_is c.args.bundle.now c.args.run.now c.args.entries.now c.args.state.now (string_bytes c.args.out.now) (string_bytes c.put_run_line.new.out) (string_bytes c.put_metrics.new.out) (string_bytes c.put_events.new.out)
    c.requires.state c.requires.effects line metrics)
    c.put_events.ensures
