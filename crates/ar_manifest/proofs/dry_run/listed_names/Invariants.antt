use Rattle.std.proofs.Common.{◌≡◌, [], drop, map}
use Rattle.serde_json.specs.View.{view}
use Rattle.ar_value.specs.Answer.{each_after}
use Rattle.ar_manifest.specs.DryRun.{dry_name}
use Rattle.ar_manifest.proofs.dry_run.listed_names.Given as goal

-- the names so far, with those that the rest of the list makes after them, are all names
abbrev pub invariant-loop-json : goal.invariant-loop-json
invariant-loop-json l =
    each_after (dry_name l.metrics) (map (λ name. name.now) l.names.items) (map (λ json. view json) (drop l.json-index l.list)) ≡ each_after (dry_name l.metrics) [] (map (λ json. view json) l.list)
