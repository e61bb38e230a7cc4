use Rattle.std.proofs.Common.{◌≡◌, drop, map}
use Rattle.ar_manifest.specs.Found.{fields, first_some, refused_in_field, refused_in_metric}
use Rattle.ar_manifest.proofs.found.refused_in_metric.Given as goal

-- no limit of the fields so far is refused
abbrev pub invariant-loop-field : goal.invariant-loop-field
invariant-loop-field l =
    first_some (map (refused_in_field l.scope.arguments.now l.scope.own.now l.scope.metric l.metric.limits) (drop l.field-index fields))
    ≡ refused_in_metric l.scope.arguments.now l.scope.own.now l.scope.metric l.metric
