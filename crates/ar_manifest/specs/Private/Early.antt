-- What is checked before memory is taken.
use Rattle.std.specs.Prelude.{List, Result, codes}
use Rattle.serde_json.specs.Data.{Data}
use Rattle.ar_value.specs.Answer.{◌>>=◌}
use Rattle.ar_json.specs.Members.{member_of_member}
use Rattle.ar_manifest.specs.Template.{counted_metrics, head_of}
use Rattle.ar_manifest.specs.declared.error.ManifestError.{ManifestError}

-- the number of a template's metrics
abbrev pub counted_of : Data → Result (List Data) ManifestError
counted_of d = counted_metrics (member_of_member (codes "spec") (codes "metrics") d)

-- a template's version, kind and name, and the number of its metrics, where it has no arguments
abbrev pub first_counted : Data → Result (List Data) ManifestError
first_counted d = head_of d >>= λ name. counted_of d
