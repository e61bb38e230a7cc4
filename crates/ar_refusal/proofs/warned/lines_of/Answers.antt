use Rattle.ar_refusal.proofs.Diagnosed.{next_line}
use Rattle.ar_refusal.proofs.warned.lines_of.Goals as goal

pub loop-warning-preserved : goal.loop-warning-preserved
loop-warning-preserved c = rw c.in_ok-push_warning.ensures (next_line c.args.warnings.now c.loop-warning.warning-index _ _ _ c.loop-warning-test.true c.warning-item.is c.loop-warning.invariant)
