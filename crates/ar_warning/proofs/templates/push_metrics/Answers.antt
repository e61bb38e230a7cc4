use Rattle.serde_json.specs.View.{view}
use Rattle.ar_warning.specs.Templates.{metric_warnings}
use Rattle.ar_warning.proofs.Warned.{no_viewed}
use Rattle.ar_warning.proofs.templates.push_metrics.Goals as goal

pub returns : goal.returns
returns c = no_viewed metric_warnings (λ metric. view metric) c.args.metrics.now c.loop-number.number c.loop-number.out.items _ c.loop-number-test.false c.loop-number.invariant
