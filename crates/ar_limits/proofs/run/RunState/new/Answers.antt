-- Nothing has happened yet.
use Rattle.ar_limits.proofs.ReplayLemmas.{replays-nil, consistent-nil, within-nil}
use Rattle.ar_limits.proofs.run.RunState.new.Goals as goal

pub invariant_of-result : goal.invariant_of-result
invariant_of-result c = record {
  consistent = rw (c.in_ok-new.ensures.metrics, c.in_ok-new.ensures.incomplete, c.in_ok-new.ensures.phase) (consistent-nil c.args.limits.now c.requires);
  within = rw c.in_ok-new.ensures.metrics (within-nil c.args.limits.now);
}

pub returns : goal.returns
returns c = rw (c.in_ok-new.ensures.metrics, c.in_ok-new.ensures.phase) (replays-nil c.args.limits.now c.requires)
