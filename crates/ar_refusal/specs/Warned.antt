-- Warnings in a format.
use Rattle.std.specs.Prelude.{◌≡◌, List, [], ◌∷◌, ◌++◌, codes, flat_map}
use Rattle.ar_value.specs.Terms.{Text}
use Rattle.ar_command_line.specs.declared.command_line.Format.{Format}
use Rattle.ar_command_line.specs.declared.command_line.Format.TheVariants as formats
use Rattle.ar_diagnostic.specs.Diagnostic.{warning_text_of}
use Rattle.ar_diagnostic.specs.DiagnosticData.{warnings_data}
use Rattle.ar_diagnostic.specs.declared.diagnostic.Diagnostic.{Diagnostic}
use Rattle.ar_object.specs.Line.{IsJsonLine}

abbrev pub warning_line : Diagnostic → Text
warning_line it = codes "argo_judge: warning: " ++ (warning_text_of it ++ codes "\n")

-- a line each
abbrev pub warning_lines : List Diagnostic → Text
warning_lines warnings = flat_map warning_line warnings

-- one JSON object, if there are any
abbrev pub IsJsonWarnings : List Diagnostic → (text : Text) → Type 0
IsJsonWarnings [] text = text ≡ []
IsJsonWarnings (first ∷ others) text = IsJsonLine (warnings_data (first ∷ others)) text

abbrev pub AreWarned : Format → List Diagnostic → (text : Text) → Type 0
AreWarned formats.Text warnings text = text ≡ warning_lines warnings
AreWarned formats.Json warnings text = IsJsonWarnings warnings text
