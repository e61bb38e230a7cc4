-- What is said of a refused command line.
use Rattle.std.specs.Prelude.{◌≡◌, if◌then◌else◌, List}
use Rattle.ar_value.specs.Terms.{Text}
use Rattle.ar_command_line.specs.declared.command_line.Format.{Format}
use Rattle.ar_command_line.specs.declared.command_line.Format.TheVariants as formats
use Rattle.ar_command_line.specs.declared.command_line.UsageError.{UsageError}
use Rattle.ar_refusal.specs.Refused.{IsWrittenAs}
use Rattle.ar_usage.specs.Usage.{asks_for_json, usage_diagnostic}

-- the format that the words ask for
abbrev pub usage_format : (words : List Text) → Format
usage_format words = if asks_for_json words then formats.Json else formats.Text

pub record IsUsageText (words : List Text) (error : UsageError) (format : Format) (text : Text) : Type 0 where
  pub asked : format ≡ usage_format words
  pub said : IsWrittenAs format (usage_diagnostic words error) text
