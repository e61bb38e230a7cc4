-- Feeding a hasher the names of a list of arguments.
use Rattle.std.specs.Prelude.{Option, Some, None, codes}
use Rattle.std.specs.declared.hash.DefaultHasher.{DefaultHasher}
use Rattle.serde_json.specs.Data.{Data}
use Rattle.ar_json.specs.Members.{text_member}
use Rattle.ar_value.specs.Terms.{Text}
use Rattle.ar_manifest.specs.Names.{fed}

-- the state after a name that may be missing
abbrev pub fed_if_there : DefaultHasher → Option Text → DefaultHasher
fed_if_there state None = state
fed_if_there state (Some name) = fed state name

-- the state after an argument's name
abbrev pub fed_argument : DefaultHasher → Data → DefaultHasher
fed_argument state d = fed_if_there state (text_member (codes "name") d)
