-- The command line, and what its words ask for.
use Rattle.std.specs.Prelude.{◌≡◌, ◌⊎◌, ◌^◌, ◌-◌, ℕ, Bool, true, false, ◌&&◌, List, [], ◌∷◌, fold, map, codes, Option, Some, None, option_map, if◌then◌else◌, Result, Ok, Err, String, string_bytes, ◌≢◌, ◌≤◌, IfOk}
use Rattle.std.specs.declared.alloc.Global.{Global}
use Rattle.std.specs.Option.{option_map_or}
use Rattle.std.specs.Str.{bytes_eq}
use Rattle.std.specs.Str.Parse.{digits_value, without_leading_plus}
use Rattle.ar_value.specs.Limits.{most_workers}
use Rattle.clap.specs.Words.{App, Kinds, Row, Rule, Text, first_of, new_app, new_rule, one_of, with_rule, with_subcommand, fault_of, subcommand_of}
use Rattle.clap.specs.Simple.{new_shape}
use Rattle.clap.specs.ValueTests.{is_unsigned_in}
use Rattle.clap.specs.declared.builder.action.ArgAction.TheVariants.{SetTrue}
use Rattle.clap.specs.declared.error.kind.ErrorKind.{ErrorKind}
use Rattle.clap.specs.declared.error.kind.ErrorKind.TheVariants as kind
use Rattle.ar_command_line.specs.declared.command_line.Command.{Command}
use Rattle.ar_command_line.specs.declared.command_line.Command.TheVariants.{Run, Ordered}
use Rattle.ar_command_line.specs.declared.command_line.UsageError.{UsageError}
use Rattle.ar_command_line.specs.declared.command_line.Format.{Format}
use Rattle.ar_command_line.specs.declared.command_line.Format.TheVariants as formats
use Rattle.ar_command_line.specs.declared.command_line.UsageError.TheVariants.{Words, Workers, Event, Output, Conflict, Several, OutOfMemory}
use Rattle.ar_command_line.specs.Selection.{Selected}
use Rattle.ar_command_line.specs.Selection as selection
use Rattle.ar_command_line.specs.Task.{Task, task_of}
use Rattle.ar_command_line.specs.Task as task

-- ---- the command line, as `clap`'s specifications see it

-- `--` and a name, with a value
abbrev pub option_named : (name : Text) → Rule
option_named name = record (new_rule name) { long = Some name; value_names = 1 }

-- `--` and a name, with no value
abbrev pub flag_named : (name : Text) → Rule
flag_named name = record (new_rule name) { long = Some name; action = Some SetTrue }

-- a subcommand whose answer has a format: it takes `--output FORMAT`
abbrev pub with_output : (name : Text) → App
with_output name = with_rule (new_app name) (option_named (codes "output"))

abbrev pub run_app : App
run_app =
    fold with_rule (with_output (codes "run"))
    (option_named (codes "workers") ∷ flag_named (codes "plain") ∷ flag_named (codes "ordered") ∷ [])

abbrev pub explain_app : App
explain_app =
    fold with_rule (with_output (codes "explain"))
    (option_named (codes "event") ∷ option_named (codes "run") ∷ option_named (codes "metric") ∷ [])

-- the program's own name and settings: a subcommand has to be named, and `help` is none
abbrev pub program : App
program = record (new_app (codes "argo_judge")) {
  top = record (new_shape (codes "argo_judge")) {
    has_version = true;
    disable_help_subcommand = true;
    subcommand_required = true;
  };
}

-- the subcommands that make no run
abbrev pub without_run : App
without_run =
    fold with_subcommand program
    ((with_output (codes "eval")).top ∷ (with_output (codes "check")).top ∷ new_shape (codes "list") ∷ [])

unfoldable pub application : App
application = fold with_subcommand without_run (run_app.top ∷ explain_app.top ∷ [])

-- ---- what is asked for

abbrev pub default_workers : ℕ
default_workers = 4

-- the number that `usize` and `u64` read from a text, where it is in these bounds
abbrev pub number_in : (least most : ℕ) → Text → Option ℕ
number_in least most text =
    if is_unsigned_in least most text then Some (digits_value 10 (without_leading_plus text)) else None

abbrev pub number_of_workers : Text → Option ℕ
number_of_workers text = number_in 1 most_workers text

-- the number that `run` was given, or else 4
abbrev pub workers_of : List Row → Option ℕ
workers_of rows = option_map_or number_of_workers (first_of (codes "workers") rows) (Some default_workers)

abbrev pub format_named : (name : Text) → Option Format
format_named name =
    if bytes_eq name (codes "text") then Some formats.Text
    else (if bytes_eq name (codes "json") then Some formats.Json else None)

-- the format that the command was given, or else text
abbrev pub format_of : List Row → Option Format
format_of rows = option_map_or format_named (first_of (codes "output") rows) (Some formats.Text)

-- `run` was given a flag
abbrev pub has_flag : (name : Text) → List Row → Bool
has_flag name rows = option_map_or (λ text. bytes_eq text (codes "true")) (one_of name rows) false

-- the run that is asked for
abbrev pub run_of : (plain ordered : Bool) → (workers : ℕ) → Format → Result Task UsageError
run_of plain ordered workers format =
    if plain && ordered then Err Conflict
    else (if plain then Ok (task.plain format)
    else (if ordered then Ok (task.ordered workers format) else Ok (task.run workers format)))

-- `run` in one thread has no use for a number of workers, but a bad one is refused all the same
abbrev pub run_command : List Row → Result Task UsageError
run_command rows =
    option_map_or (λ workers. option_map_or (run_of (has_flag (codes "plain") rows) (has_flag (codes "ordered") rows)
    workers) (format_of rows) (Err Output)) (workers_of rows) (Err Workers)

-- the number of a measurement that a text names: any of 64 bits
abbrev pub event_named : Text → Option ℕ
event_named text = number_in 0 (2 ^ 64 - 1) text

-- the event that `explain` was given, or `Some None`; `None` where its text names no number
abbrev pub event_of : List Row → Option (Option ℕ)
event_of rows = option_map_or (λ text. option_map Some (event_named text)) (first_of (codes "event") rows) (Some None)

-- the events that are explained: all of them, unless one of the three options is given
abbrev pub selection_of : (event : Option ℕ) → (run metric : Option Text) → Option Selected
selection_of None None None = Some selection.all
selection_of (Some number) None None = Some (selection.event number)
selection_of None (Some name) None = Some (selection.of_run name)
selection_of None None (Some name) = Some (selection.of_metric name)
selection_of event run metric = None

abbrev pub explain_of : (run metric : Option Text) → (event : Option ℕ) → Format → Result Task UsageError
explain_of run metric event format =
    option_map_or (λ selected. Ok (task.explain selected format)) (selection_of event run metric) (Err Several)

-- a bad number is refused first, then a bad format, and then several options for one
abbrev pub explain_command : List Row → Result Task UsageError
explain_command rows =
    option_map_or (λ event. option_map_or (explain_of (first_of (codes "run") rows) (first_of (codes "metric") rows)
    event) (format_of rows) (Err Output)) (event_of rows) (Err Event)

-- a command whose answer has a format
abbrev pub formatted : (Format → Task) → List Row → Result Task UsageError
formatted command rows = option_map_or (λ format. Ok (command format)) (format_of rows) (Err Output)

abbrev pub named : Text → List Row → Result Task UsageError
named name rows =
    if bytes_eq name (codes "eval") then formatted task.eval rows
    else (if bytes_eq name (codes "check") then formatted task.check rows
    else (if bytes_eq name (codes "list") then Ok task.list
    else (if bytes_eq name (codes "run") then run_command rows
    else (if bytes_eq name (codes "explain") then explain_command rows else Err Words))))

-- what a subcommand asks for, with its matches
abbrev pub command_named : Option (Text × List Row) → Result Task UsageError
command_named None = Err Words
command_named (Some subcommand) = named subcommand.0 subcommand.1

-- the words as texts
abbrev pub texts_of : List (String Global) → List Text
texts_of = map string_bytes

-- what the words of a command line ask for
pub record AsksForCommand (given : List Text) (result : Result Command UsageError) : Type 0 where
  -- the command is the one that the words name, and `clap` finds no fault in them
  pub named : IfOk result
      (λ command. (fault_of application given ≡ [])
      × (command_named (subcommand_of application given) ≡ Ok (task_of command)))
  -- a command's number of workers is from 1 to 16
  pub bounds : (n : ℕ) (format : Format) → result ≡ Ok (Run n format) → (1 ≤ n) × (n ≤ most_workers)
  pub ordered_bounds : (n : ℕ) (format : Format) → result ≡ Ok (Ordered n format) → (1 ≤ n) × (n ≤ most_workers)
  -- words are refused only where `clap` finds a fault
  pub words : result ≡ Err Words → fault_of application given ≢ []
  -- a number of workers is refused only where the words are good but for that
  pub workers : result ≡ Err Workers
      → (fault_of application given ≡ []) × (command_named (subcommand_of application given) ≡ Err Workers)
  -- and so are the number of an event and a format
  pub event : result ≡ Err Event
      → (fault_of application given ≡ []) × (command_named (subcommand_of application given) ≡ Err Event)
  pub output : result ≡ Err Output
      → (fault_of application given ≡ []) × (command_named (subcommand_of application given) ≡ Err Output)
  -- two ways to run are refused only where the words are good but for that, and so are two ways to select events
  pub conflict : result ≡ Err Conflict
      → (fault_of application given ≡ []) × (command_named (subcommand_of application given) ≡ Err Conflict)
  pub several : result ≡ Err Several
      → (fault_of application given ≡ []) × (command_named (subcommand_of application given) ≡ Err Several)

-- an error of `clap`, as it is returned: out of memory, or else that it refuses the words
abbrev pub of_kind : ErrorKind → UsageError
of_kind kind.OutOfMemory = OutOfMemory
of_kind _ = Words

-- ---- the texts of `--help` and `--version`

-- an error of this kind represents such a text
abbrev pub is_request : ErrorKind → Bool
is_request kind.DisplayHelp = true
is_request kind.DisplayVersion = true
is_request _ = false

-- whether a text is shown, by the kind of fault that `clap` finds, or by one of those that it may find
abbrev pub AsksForText : Kinds → Bool → Type 0
AsksForText [] shows = shows ≡ false
AsksForText (kind ∷ []) shows = shows ≡ is_request kind
AsksForText (kind ∷ other ∷ kinds) shows = (shows ≡ is_request kind) ⊎ AsksForText (other ∷ kinds) shows
