use Rattle.std.proofs.Common.{◌≡◌, [], drop, map}
use Rattle.serde_json.specs.View.{view}
use Rattle.ar_value.specs.Answer.{each_after}
use Rattle.ar_manifest.specs.Template.{metric_of}
use Rattle.ar_manifest.proofs.reader.metrics.Given as goal

-- the metrics so far, with those that the rest of the list makes after them, are all metrics
abbrev pub invariant-loop-json : goal.invariant-loop-json
invariant-loop-json l = each_after metric_of l.metrics.items (map (λ json. view json) (drop l.json-index l.list)) ≡ each_after metric_of [] (map (λ json. view json) l.list)
