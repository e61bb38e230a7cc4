use Rattle.std.proofs.Common.{◌≡◌, [], drop, map}
use Rattle.serde_json.specs.View.{view}
use Rattle.ar_value.specs.Answer.{each_after}
use Rattle.ar_manifest.specs.Template.{argument_of}
use Rattle.ar_manifest.proofs.reader.listed_arguments.Given as goal

-- the arguments so far, with those that the rest of the list makes after them, are all arguments
abbrev pub invariant-loop-json : goal.invariant-loop-json
invariant-loop-json l = each_after argument_of l.arguments (map (λ json. view json) (drop l.json-index l.list)) ≡ each_after argument_of [] (map (λ json. view json) l.list)
