-- What commands write for an input, for what they refuse it, and how they end.
use Rattle.std.specs.Prelude.{◌≡◌, ◌≢◌, ◌≤◌, ℕ, nat_lt, Bool, true, false, List, ◌++◌, length, Option, Some, None, option_map, codes, map, if◌then◌else◌, Result, Ok, Err}
use Rattle.std.specs.Io.KnownBytes.{Appends}
use Rattle.std.specs.List.{list_any}
use Rattle.ar_value.specs.Terms.{Bytes, Text}
use Rattle.ar_value.specs.Fault.{fault_name}
use Rattle.ar_value.specs.declared.fault.Fault.{Fault}
use Rattle.ar_limits.specs.Metric.{is_unsuccessful}
use Rattle.ar_limits.specs.declared.phase.Phase.{Phase}
use Rattle.ar_bundle.specs.Bundle.{Bundle}
use Rattle.ar_bundle.specs.Lawful.{AllRise, AreLawful, numbers_of}
use Rattle.ar_bundle.specs.declared.bundle.MetricPart.{MetricPart}
use Rattle.ar_bundle.specs.declared.bundle.RunPart.{RunPart}
use Rattle.ar_bundle.specs.declared.history.Entry.{Entry}
use Rattle.ar_json.specs.Document.{json_in}
use Rattle.serde_json.specs.Data.{Data}
use Rattle.ar_report.specs.Check.{check_text, list_text}
use Rattle.ar_facts.specs.Facts.{RunFacts, check_facts, phases_of, report_facts}
use Rattle.ar_facts.specs.Report.{report_text}
use Rattle.ar_facts.specs.ReportData.{answer_data, check_data, report_data}
use Rattle.ar_object.specs.Line.{IsJsonLine}
use Rattle.ar_reason.specs.Reason.{reasons_of}
use Rattle.ar_reason.specs.ReasonData.{reasons_data}
use Rattle.ar_reason.specs.ReasonText.{reasons_text}
use Rattle.ar_progress.specs.declared.chosen.Chosen.{Chosen}
use Rattle.ar_progress.specs.declared.chosen.Chosen.TheVariants as chosen
use Rattle.ar_document.specs.Document as document
use Rattle.ar_document.specs.Opening.{index_of_name}
use Rattle.ar_document.specs.declared.error.BundleError.{BundleError}
use Rattle.ar_document.specs.declared.error.BundleError.TheVariants as bundle
use Rattle.ar_eval.specs.Evaluation.{Evaluates}
use Rattle.ar_command_line.specs.Output.{AppendsAll, AppendsFront, Call}
use Rattle.ar_command_line.specs.declared.input.InputError.{InputError}
use Rattle.ar_command_line.specs.declared.input.InputError.TheVariants as input
use Rattle.ar_eval.specs.declared.eval.EvalError.{EvalError}
use Rattle.ar_eval.specs.declared.eval.EvalError.TheVariants as eval
use Rattle.ar_command.specs.declared.serving.Closing.{Closing}
use Rattle.ar_command.specs.declared.serving.Closing.TheVariants.{Good, Bad}
use Rattle.ar_command_line.specs.declared.command_line.Command.{Command}
use Rattle.ar_command_line.specs.declared.command_line.Command.TheVariants as commands
use Rattle.ar_command_line.specs.Selection.{Selected, selected}
use Rattle.ar_command_line.specs.Selection as selections
use Rattle.ar_command_line.specs.declared.command_line.Format.{Format}
use Rattle.ar_command_line.specs.declared.command_line.Format.TheVariants as formats
use Rattle.ar_command.specs.declared.serving.Refusal.{Refusal}
use Rattle.ar_command.specs.declared.serving.Refusal.TheVariants as refusals
use Rattle.ar_command.specs.declared.serving.ServeError.{ServeError}
use Rattle.ar_command.specs.declared.serving.ServeError.TheVariants.{Read, Refused, Work, Write, OutOfMemory}
use Rattle.ar_workers.specs.Joined.{IsWorkCause, IsNotLost}
use Rattle.ar_workers.specs.declared.error.WorkError.{WorkError}
use Rattle.ar_workers.specs.declared.error.WorkError.TheVariants as work

-- ---- what is written

-- the line that is written: a boolean, or a fault by its name, and a line feed
abbrev pub line_of : Result Bool Fault → Text
line_of (Ok true) = codes "true\n"
line_of (Ok false) = codes "false\n"
line_of (Err fault) = codes "fault " ++ (fault_name fault ++ codes "\n")

-- the text of what has these words, and as JSON is this object
abbrev pub IsPrinted : Format → (words : Text) → (as_json : Data) → (text : Text) → Type 0
IsPrinted formats.Text words as_json text = text ≡ words
IsPrinted formats.Json words as_json text = IsJsonLine as_json text

-- a line is written for an input
pub record Writes (format : Format) (input : Bytes) (line : Text) : Type 0 where
  pub answer : Result Bool Fault
  pub evaluates : Evaluates input (Ok answer)
  pub is : IsPrinted format (line_of answer) (answer_data answer) line

-- a text that shows the bundle of an input
pub record Shows (IsShown : Bundle → Text → Type 0) (input : Bytes) (text : Text) : Type 0 where
  pub bundle : Bundle
  pub reads : document.ReadsInput input (Ok bundle)
  pub is : IsShown bundle text

abbrev pub IsChecked : Format → Bundle → (text : Text) → Type 0
IsChecked format bundle text = IsPrinted format (check_text (check_facts bundle)) (check_data (check_facts bundle)) text

abbrev pub IsListed : Bundle → (text : Text) → Type 0
IsListed bundle text = text ≡ list_text (check_facts bundle)

-- Bad where a run is Failed, Error or Inconclusive
abbrev pub closing_of : List Phase → Closing
closing_of phases = if list_any is_unsuccessful phases then Bad else Good

abbrev pub IsReport : Format → List RunFacts → (text : Text) → Type 0
IsReport format runs text = IsPrinted format (report_text runs) (report_data runs) text

-- the report of lawful histories of a bundle, and the closing by the phases in it
pub record IsReported (format : Format) (bundle : Bundle) (histories : List (List Entry)) (text : Text)
    (closing : Closing) : Type 0 where
  pub lawful : AreLawful bundle histories
  pub is : IsReport format (report_facts bundle (map numbers_of histories)) text
  pub closes : closing ≡ closing_of (phases_of (report_facts bundle (map numbers_of histories)))

-- a report of the bundle of an input, for some lawful histories
pub record Reports (format : Format) (input : Bytes) (text : Text) (closing : Closing) : Type 0 where
  pub bundle : Bundle
  pub reads : document.ReadsInput input (Ok bundle)
  pub histories : List (List Entry)
  pub reported : IsReported format bundle histories text closing

-- for some in which numbers rise
pub record ReportsInOrder (format : Format) (input : Bytes) (text : Text) (closing : Closing) : Type 0 where
  pub reports : Reports format input text closing
  pub rise : AllRise reports.histories

-- ---- what is explained

-- the events that a selection asks for, where the bundle has what it names
abbrev pub chosen_of : Bundle → Selected → Option Chosen
chosen_of bundle selections.all = Some chosen.All
chosen_of bundle (selections.event number) =
    if nat_lt number (length bundle.entries) then Some (chosen.Event number) else None
chosen_of bundle (selections.of_run name) =
    option_map chosen.Run (index_of_name name (map (λ (run : RunPart). run.name) bundle.runs))
chosen_of bundle (selections.of_metric name) =
    option_map chosen.Metric (index_of_name name (map (λ (metric : MetricPart). metric.name) bundle.metrics))

-- what led to the verdicts and effects of the plain run's events, of those that a selection asks for
pub record Explains (selection : Selected) (format : Format) (input : Bytes) (text : Text) : Type 0 where
  pub bundle : Bundle
  pub reads : document.ReadsInput input (Ok bundle)
  -- the document, which has measurements as they were given
  pub given : Data
  pub is_given : json_in input ≡ Ok given
  pub histories : List (List Entry)
  pub lawful : AreLawful bundle histories
  pub rise : AllRise histories
  pub asked : Chosen
  pub chooses : chosen_of bundle selection ≡ Some asked
  pub is : IsPrinted format (reasons_text (reasons_of given bundle asked histories))
      (reasons_data (reasons_of given bundle asked histories)) text

-- ---- what a command says

-- what a command writes for an input, and how it closes
abbrev pub Says : Command → (input : Bytes) (text : Text) → Closing → Type 0
Says (commands.Eval format) input text closing = Writes format input text × (closing ≡ Good)
Says (commands.Check format) input text closing = Shows (IsChecked format) input text × (closing ≡ Good)
Says commands.List input text closing = Shows IsListed input text × (closing ≡ Good)
Says (commands.Run workers format) input text closing = Reports format input text closing
Says (commands.Plain format) input text closing = ReportsInOrder format input text closing
Says (commands.Ordered workers format) input text closing = ReportsInOrder format input text closing
Says (commands.Explain selection format) input text closing =
    Explains (selected selection) format input text × (closing ≡ Good)

-- a command was carried out: what it says of the bytes that were taken was written, and then flushed
pub record IsCarriedOut {W : Type 0} (command : Command) (taken_before taken_after : Option (List ℕ))
    (contents : W → Option (List ℕ)) (calls : W → Option (List Call)) (writer later_writer : W)
    (closing : Closing) : Type 0 where
  pub input : List ℕ
  pub text : Text
  pub took : Appends taken_before taken_after input
  pub says : Says command input text closing
  pub wrote : AppendsAll contents calls writer later_writer text

-- a command's output was cut: a front of what it says of the bytes that were taken was written, until a call failed
pub record IsCut {W : Type 0} (command : Command) (taken_before taken_after : Option (List ℕ))
    (contents : W → Option (List ℕ)) (calls : W → Option (List Call)) (writer later_writer : W) : Type 0 where
  pub input : List ℕ
  pub text : Text
  pub closing : Closing
  pub took : Appends taken_before taken_after input
  pub says : Says command input text closing
  pub wrote : AppendsFront contents calls writer later_writer text

-- a front of what a command says of an input was written, until a call failed
pub record WritesFront {W : Type 0} (command : Command) (contents : W → Option (List ℕ))
    (calls : W → Option (List Call)) (writer later_writer : W) (input : Bytes) : Type 0 where
  pub text : Text
  pub closing : Closing
  pub says : Says command input text closing
  pub wrote : AppendsFront contents calls writer later_writer text

-- ---- what is refused

-- the bundle of an input has no run, metric or measurement that the selection names
pub record LacksSelected (selection : Selected) (input : Bytes) : Type 0 where
  pub bundle : Bundle
  pub reads : document.ReadsInput input (Ok bundle)
  pub none : chosen_of bundle selection ≡ None

-- the first fault of an input for a command
abbrev pub RefusesInput : Command → (input : Bytes) → Refusal → Type 0
RefusesInput (commands.Eval format) input (refusals.Eval fault) = Evaluates input (Err fault)
RefusesInput (commands.Eval format) input (refusals.Bundle error) = ⊥
RefusesInput (commands.Explain selection format) input refusals.NotThere = LacksSelected (selected selection) input
RefusesInput command input (refusals.Bundle error) = document.ReadsInput input (Err error)
RefusesInput command input (refusals.Eval fault) = ⊥
RefusesInput command input refusals.NotThere = ⊥

-- the bytes that were taken are refused
pub record RefusesTaken (command : Command) (taken_before taken_after : Option (List ℕ))
    (refusal : Refusal) : Type 0 where
  pub input : List ℕ
  pub took : Appends taken_before taken_after input
  pub refuses : RefusesInput command input refusal

-- ---- workers

-- a command for workers, and how many
abbrev pub RunsWith : Command → (most_workers : ℕ) → Type 0
RunsWith (commands.Run workers format) most_workers = (1 ≤ workers) × (workers ≤ most_workers)
RunsWith (commands.Ordered workers format) most_workers = (1 ≤ workers) × (workers ≤ most_workers)
RunsWith command most_workers = ⊥

-- a command for one thread
abbrev pub RunsAlone : Command → Type 0
RunsAlone (commands.Run workers format) = ⊥
RunsAlone (commands.Ordered workers format) = ⊥
RunsAlone command = Unit {0}

-- why the workers of a command give no histories: where a number was lost this is shown, and an ordered run loses none
abbrev pub IsCauseOf : Command → Bundle → WorkError → Type 0
IsCauseOf (commands.Ordered workers format) bundle error = IsNotLost error
IsCauseOf command bundle error = IsWorkCause bundle error

-- and so no report of the bundle of an input; out of memory is returned as such
pub record Breaks (command : Command) (input : Bytes) (error : WorkError) : Type 0 where
  pub bundle : Bundle
  pub reads : document.ReadsInput input (Ok bundle)
  pub cause : IsCauseOf command bundle error
  pub not_memory : error ≢ work.OutOfMemory

-- and of the bytes that were taken
pub record IsBroken (command : Command) (taken_before taken_after : Option (List ℕ)) (error : WorkError) : Type 0 where
  pub input : List ℕ
  pub took : Appends taken_before taken_after input
  pub breaks : Breaks command input error

-- ---- faults of a command's parts, as the command returns them

abbrev pub of_input : InputError → ServeError
of_input input.Read = Read
of_input input.OutOfMemory = OutOfMemory

abbrev pub of_eval : EvalError → ServeError
of_eval eval.OutOfMemory = OutOfMemory
of_eval fault = Refused (refusals.Eval fault)

abbrev pub of_bundle : BundleError → ServeError
of_bundle bundle.OutOfMemory = OutOfMemory
of_bundle error = Refused (refusals.Bundle error)

abbrev pub of_work : WorkError → ServeError
of_work work.OutOfMemory = OutOfMemory
of_work error = Work error

-- ---- the end

-- the exit status of a command's outcome
abbrev pub status_of : Result Closing ServeError → ℕ
status_of (Ok Good) = 0
status_of (Ok Bad) = 1
status_of (Err (Refused refusal)) = 2
status_of (Err (Work work.OutOfMemory)) = 3
status_of (Err (Work error)) = 5
status_of (Err OutOfMemory) = 3
status_of (Err Read) = 4
status_of (Err Write) = 4
