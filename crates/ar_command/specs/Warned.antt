-- What commands warn of: what an input that has an answer has that is probably not meant.
use Rattle.std.specs.Prelude.{◌≡◌, List, [], ◌++◌, Result, Ok, Err}
use Rattle.ar_value.specs.Terms.{Bytes}
use Rattle.serde_json.specs.Data.{Data}
use Rattle.ar_bundle.specs.Bundle.{Bundle}
use Rattle.ar_command.specs.declared.serving.Closing.{Closing}
use Rattle.ar_command.specs.declared.serving.ServeError.{ServeError}
use Rattle.ar_command_line.specs.declared.command_line.Command.{Command}
use Rattle.ar_command_line.specs.declared.command_line.Command.TheVariants as commands
use Rattle.ar_diagnostic.specs.declared.diagnostic.Diagnostic.{Diagnostic}
use Rattle.ar_document.specs.Document.{ReadsInput}
use Rattle.ar_json.specs.Document.{json_in}
use Rattle.ar_warning.specs.Measurements.{misfit_warnings}
use Rattle.ar_warning.specs.Templates.{template_warnings}

-- the warnings of an input: of its template, and then of its measurements
pub record AreWarningsOf (input : Bytes) (warnings : List Diagnostic) : Type 0 where
  -- the document that the input is, and its bundle
  pub document : Data
  pub is_document : json_in input ≡ Ok document
  pub bundle : Bundle
  pub reads : ReadsInput input (Ok bundle)
  pub are : warnings ≡ template_warnings document ++ misfit_warnings bundle

-- those that a command gives: `eval` and `list` give none
abbrev pub Warns : Command → (input : Bytes) → List Diagnostic → Type 0
Warns (commands.Eval format) input warnings = warnings ≡ []
Warns commands.List input warnings = warnings ≡ []
Warns command input warnings = AreWarningsOf input warnings

-- the warnings after a command, which are those before it where it wasn't carried out
abbrev pub WarnsOnce : Result Closing ServeError → (before after : List Diagnostic) → (List Diagnostic → Type 0)
    → Type 0
WarnsOnce (Ok closing) before after P = P after
WarnsOnce (Err error) before after P = after ≡ before
