-- What is shown of a limit that is refused.
use Rattle.std.specs.Prelude.{ℕ, if◌then◌else◌, List, Option, Some, None, Result, Ok, Err, is_ok}
use Rattle.ar_manifest.specs.Binding.{RunArguments}
use Rattle.ar_manifest.specs.Bound.{limit_of_number}
use Rattle.ar_manifest.specs.Found.{refused_value}
use Rattle.ar_manifest.specs.Private.Within.{limit_within}
use Rattle.ar_manifest.specs.Template.{TemplateArguments}
use Rattle.ar_manifest.specs.declared.error.ManifestError.{ManifestError}
use Rattle.ar_manifest.specs.declared.found.LimitValue.{LimitValue}
use Rattle.ar_manifest.specs.declared.found.LimitValue.TheVariants as values
use Rattle.ar_manifest.specs.declared.template.Limit.TheVariants as limits

-- a number that is no limit of metric i
abbrev pub refused_number : ℕ → ℕ → Option LimitValue
refused_number i n = if is_ok (limit_of_number i n) then None else Some (values.Whole n)

-- a bound text, if it has few enough bytes
abbrev pub shown : Option (List ℕ) → LimitValue
shown (Some text) = values.Text text
shown None = values.LongText

-- a bound text that is no limit
unfoldable pub refused_bound : ℕ → Option (List ℕ) → Option LimitValue
refused_bound i bound = if is_ok (limit_within i bound) then None else Some (shown bound)

-- and a result of one
abbrev pub refused_answer : ℕ → Result (Option (List ℕ)) ManifestError → Option LimitValue
refused_answer i (Ok bound) = refused_bound i bound
refused_answer i (Err refusal) = None

-- a text that is no limit once it is bound
abbrev pub refused_text : TemplateArguments → RunArguments → ℕ → List ℕ → Option LimitValue
refused_text arguments own i text = refused_value arguments own i (Some (limits.Text text))
