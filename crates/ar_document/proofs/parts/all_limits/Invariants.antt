use Rattle.std.proofs.Common.{◌≡◌, map, take}
use Rattle.ar_document.specs.Parts.{limits_of}
use Rattle.ar_document.proofs.parts.all_limits.Given as goal

-- the limits so far
abbrev pub invariant-loop-metric : goal.invariant-loop-metric
invariant-loop-metric l = l.limits.items ≡ map limits_of (take l.metric-index l.bound)
