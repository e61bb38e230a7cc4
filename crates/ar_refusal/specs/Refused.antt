-- What is said of a refused input: its diagnostic, as a line or as JSON.
use Rattle.std.specs.Prelude.{◌≡◌, ℕ, Bool, true, false, ◌||◌, nat_eq, if◌then◌else◌, List, [], ◌∷◌, ◌++◌, codes, decimal, length, Option, Some, None}
use Rattle.std.specs.List.{list_all, starts_with}
use Rattle.ar_value.specs.Terms.{Bytes, Text}
use Rattle.serde_json.specs.Data.{Data}
use Rattle.ar_command.specs.declared.serving.Refusal.{Refusal}
use Rattle.ar_command.specs.declared.serving.Refusal.TheVariants as refusals
use Rattle.ar_command_line.specs.Selection.{Selected, selected}
use Rattle.ar_command_line.specs.Selection as selections
use Rattle.ar_command_line.specs.declared.command_line.Command.{Command}
use Rattle.ar_command_line.specs.declared.command_line.Command.TheVariants as commands
use Rattle.ar_command_line.specs.declared.command_line.Format.{Format}
use Rattle.ar_command_line.specs.declared.command_line.Format.TheVariants as formats
use Rattle.ar_diagnostic.specs.Diagnostic.{expecting, refusal_text_of, plain_diagnostic}
use Rattle.ar_diagnostic.specs.DiagnosticData.{refusal_data}
use Rattle.ar_diagnostic.specs.declared.diagnostic.Diagnostic.{Diagnostic}
use Rattle.ar_diagnostic.specs.declared.diagnostic.Position.{Position}
use Rattle.ar_diagnostic.specs.declared.place.Flag.{Flag}
use Rattle.ar_diagnostic.specs.declared.place.Flag.TheVariants as flags
use Rattle.ar_diagnostic.specs.declared.place.Place.TheVariants as places
use Rattle.ar_document.specs.declared.error.BundleError.TheVariants as bundle
use Rattle.ar_eval.specs.declared.eval.EvalError.TheVariants as eval
use Rattle.ar_json.specs.Document.{json_of}
use Rattle.ar_object.specs.Line.{IsJsonLine}
use Rattle.ar_quote.specs.Shown.{quoted}
use Rattle.ar_words.specs.Documents.{bundle_diagnostic, eval_diagnostic}
use Rattle.ar_words.specs.Lists.{list_in}
use Rattle.ar_words.specs.Names.{metrics_there, runs_there}

-- ---- formats

-- the format of a command's answer, and of its refusal
abbrev pub format_of : Command → Format
format_of (commands.Eval format) = format
format_of (commands.Check format) = format
format_of commands.List = formats.Text
format_of (commands.Run workers format) = format
format_of (commands.Plain format) = format
format_of (commands.Ordered workers format) = format
format_of (commands.Explain selection format) = format

-- a diagnostic is said as a line, without a line feed, or as one JSON object
abbrev pub IsWrittenAs : Format → Diagnostic → (text : Text) → Type 0
IsWrittenAs formats.Text it text = text ≡ refusal_text_of it
IsWrittenAs formats.Json it text = IsJsonLine (refusal_data it) text

-- ---- what the document lacks of what was named

-- how many items there are
abbrev pub count_of : Option (List Data) → ℕ
count_of None = 0
count_of (Some items) = length items

abbrev pub measurement_count : Data → ℕ
measurement_count document = count_of (list_in (codes "measurements") document)

abbrev pub lacking_event : (number count : ℕ) → Diagnostic
lacking_event number count =
    record (expecting (places.CommandLine (Some flags.Event)) (codes "NotThere")
    (codes "a number below " ++ decimal count)) {
      found = Some (codes "the document has no measurement " ++ decimal number);
    }

abbrev pub no_item : (kind name : Text) → Text
no_item kind name = codes "the document has no " ++ (kind ++ (codes " " ++ quoted name))

abbrev pub lacking_name : Flag → (kind name there : Text) → Diagnostic
lacking_name flag kind name there =
    record (expecting (places.CommandLine (Some flag)) (codes "NotThere") (codes "the name of one that it has")) {
      found = Some (no_item kind name);
      hint = Some there;
    }

unfoldable pub lacking_diagnostic : Selected → Data → Diagnostic
lacking_diagnostic selections.all document = plain_diagnostic (places.CommandLine None) (codes "NotThere")
lacking_diagnostic (selections.event number) document = lacking_event number (measurement_count document)
lacking_diagnostic (selections.of_run name) document =
    lacking_name flags.Run (codes "run") name (runs_there document)
lacking_diagnostic (selections.of_metric name) document =
    lacking_name flags.Metric (codes "metric") name (metrics_there document)

-- ---- inputs that are no document

abbrev pub too_large : Diagnostic
too_large = expecting places.Document (codes "TooLarge") (codes "at most 16777216 bytes")

abbrev pub is_blank_byte : (byte : ℕ) → Bool
is_blank_byte byte = nat_eq byte 32 || nat_eq byte 9 || nat_eq byte 10 || nat_eq byte 13

-- the byte order mark in UTF-8
abbrev pub byte_order_mark : Bytes
byte_order_mark = 0xEF ∷ 0xBB ∷ 0xBF ∷ []

abbrev pub input_begins : (front input : Bytes) → Bool
input_begins front input = starts_with nat_eq input front

abbrev pub is_yaml : (input : Bytes) → Bool
is_yaml input =
    input_begins (codes "apiVersion:") input || input_begins (codes "kind:") input
    || input_begins (codes "metadata:") input || input_begins (codes "manifest:") input
    || input_begins (codes "---") input || input_begins (codes "# ") input

abbrev pub input_hint : (input : Bytes) → Option Text
input_hint input =
    if list_all is_blank_byte input then Some (codes "the input is empty")
    else (if input_begins byte_order_mark input
    then Some (codes "the input begins with a byte order mark; leave it out")
    else (if is_yaml input
    then Some (codes "this looks like YAML; `yq -o json` makes it JSON") else None))

unfoldable pub no_json : (input : Bytes) → Option Position → Diagnostic
no_json input position =
    record (expecting places.Document (codes "Utf8OrJson") (codes "one JSON value in UTF-8")) {
      position = position;
      hint = input_hint input;
    }

-- where it ceases to be JSON the reader of JSON says, whose contract doesn't tie it to the input
pub record IsNoJson (input : Bytes) (it : Diagnostic) : Type 0 where
  pub position : Option Position
  pub is : it ≡ no_json input position

-- ---- the diagnostic of a refused input

abbrev pub is_too_large : Refusal → Bool
is_too_large (refusals.Eval eval.TooLarge) = true
is_too_large (refusals.Bundle bundle.TooLarge) = true
is_too_large refusal = false

unfoldable pub refusal_diagnostic : Command → Data → Refusal → Diagnostic
refusal_diagnostic command document (refusals.Eval fault) = eval_diagnostic document fault
refusal_diagnostic command document (refusals.Bundle error) = bundle_diagnostic document error
refusal_diagnostic (commands.Explain selection format) document refusals.NotThere =
    lacking_diagnostic (selected selection) document
refusal_diagnostic command document refusals.NotThere = plain_diagnostic (places.CommandLine None) (codes "NotThere")

abbrev pub IsDiagnosed : Command → (input : Bytes) → Option Data → Refusal → Diagnostic → Type 0
IsDiagnosed command input (Some document) refusal it = it ≡ refusal_diagnostic command document refusal
IsDiagnosed command input None refusal it = IsNoJson input it

-- an input that is too large isn't looked at
pub record IsDiagnosis (command : Command) (input : Bytes) (refusal : Refusal) (it : Diagnostic) : Type 0 where
  pub large : is_too_large refusal ≡ true → it ≡ too_large
  pub other : is_too_large refusal ≡ false → IsDiagnosed command input (json_of input) refusal it

-- the text of a refused input, in the format of the command's answer
pub record IsRefusalText (command : Command) (input : Bytes) (refusal : Refusal) (text : Text) : Type 0 where
  pub diagnostic : Diagnostic
  pub diagnosis : IsDiagnosis command input refusal diagnostic
  pub said : IsWrittenAs (format_of command) diagnostic text
