use Rattle.std.proofs.Common.{◌≡◌, take}
use Rattle.std.specs.Prelude.{fold}
use Rattle.std.specs.Hash.DefaultHasher.{initial}
use Rattle.serde_json.specs.View.{view}
use Rattle.ar_manifest.specs.Private.Feeding.{fed_argument}
use Rattle.ar_manifest.proofs.reader.names_hasher.Given as goal

-- the names so far were fed
abbrev pub invariant-loop-json : goal.invariant-loop-json
invariant-loop-json l = l.hasher ≡ fold (λ state json. fed_argument state (view json)) initial (take l.json-index l.list)
