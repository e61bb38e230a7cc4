-- The metrics up to the index are marked, and the others are as they were.
use Rattle.std.proofs.Common.{◌≡◌, map, take, drop, ◌++◌}
use Rattle.ar_manifest.specs.DryRun.{with_dry}
use Rattle.ar_manifest.proofs.dry_run.make_dry.Given as goal

abbrev pub invariant-loop-metric : goal.invariant-loop-metric
invariant-loop-metric l =
    l.metrics ≡ map (with_dry (map (λ name. name.now) l.names)) (take l.metric-index l.fn.metrics) ++ drop l.metric-index l.fn.metrics
