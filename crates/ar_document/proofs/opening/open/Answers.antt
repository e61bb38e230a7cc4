use Rattle.std.proofs.Common.{◌≡◌, ◌≤◌, length, ◌∙◌, ap, subst, sym}
use Rattle.ar_value.specs.Limits.{most_metrics}
use Rattle.serde_json.specs.View.{view}
use Rattle.ar_document.proofs.Templates.{few_metrics_in}
use Rattle.ar_document.proofs.opening.open.Goals as goal

pub returns-clause-opened : goal.returns-clause-opened
returns-clause-opened c =
    let made = rw c.in_ok-held.ensures.ok.0 at c.numbered_metrics-metrics.ensures.each in
    let numbers = rw c.in_ok-held.ensures.ok.0 at c.numbered_metrics-metrics.ensures.numbers in
    let measurers = rw c.in_ok-held.ensures.ok.0 at c.numbered_metrics-metrics.ensures.measurers in
    let few_runs = rw c.in_ok-held-2.ensures.ok.0 at c.read_runs.ensures.few in
    let run_numbers = rw c.in_ok-held-2.ensures.ok.0 at c.read_runs.ensures.numbers in
    let each : length c.in_ok-held.held.1.0.items ≡ length c.in_ok-template.template.metrics = made ∙ ap length c.as_slice.ensures in
    rw (c.in_ok-held-2.ensures.ok.1, c.in_ok-held.ensures.ok.1)
    (record {
      each = each;
      few_metrics = subst (λ n. n ≤ most_metrics) (sym each) (few_metrics_in (view c.args.document.now) c.in_ok-template.template c.in_ok-template.ensures);
      measurers = measurers;
      few_runs = few_runs;
      run_numbers = run_numbers;
      metric_numbers = numbers;
    })
