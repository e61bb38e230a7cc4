-- What is said of a command line that is refused.
use Rattle.std.specs.Prelude.{ℕ, Bool, false, if◌then◌else◌, List, ◌++◌, codes, drop, Option, Some, None, option_map}
use Rattle.std.specs.Option.{option_map_or}
use Rattle.std.specs.Str.{bytes_eq}
use Rattle.ar_value.specs.Terms.{Text}
use Rattle.ar_quote.specs.Shown.{quoted}
use Rattle.ar_diagnostic.specs.Diagnostic.{expecting, plain_diagnostic}
use Rattle.ar_diagnostic.specs.declared.diagnostic.Diagnostic.{Diagnostic}
use Rattle.ar_diagnostic.specs.declared.place.Flag.TheVariants as flags
use Rattle.ar_diagnostic.specs.declared.place.Place.TheVariants.{CommandLine}
use Rattle.ar_command_line.specs.Refusals.{usage_error_name}
use Rattle.ar_command_line.specs.declared.command_line.UsageError.{UsageError}
use Rattle.ar_command_line.specs.declared.command_line.UsageError.TheVariants as errors
use Rattle.ar_usage.specs.Words.{expected, first_refused, flag_of, is_option, name_of, value_given}
use Rattle.ar_usage.specs.declared.words.Next.{Next}
use Rattle.ar_usage.specs.declared.words.Next.TheVariants.{Command, Nothing, Options, Value}
use Rattle.ar_usage.specs.declared.words.Taker.{Taker}
use Rattle.ar_usage.specs.declared.words.Taker.TheVariants.{EvalOrCheck, Run, Explain}
use Rattle.ar_usage.specs.declared.words.Valued.{Valued}
use Rattle.ar_usage.specs.declared.words.Valued.TheVariants.{Workers, Output, Event, RunName, MetricName}

-- ---- a word that isn't taken

-- something else is expected than a word
abbrev pub word_expecting : (word why expected : Text) → Diagnostic
word_expecting word why expected =
    record (expecting (CommandLine None) (usage_error_name errors.Words) expected) {
      found = Some (quoted word ++ why);
    }

-- a word isn't taken, and something helps
abbrev pub word_hinted : (word hint : Text) → Diagnostic
word_hinted word hint =
    record (plain_diagnostic (CommandLine None) (usage_error_name errors.Words)) {
      found = Some (quoted word ++ codes " isn't taken");
      hint = Some hint;
    }

-- the options that a command takes
abbrev pub option_hint : Taker → Text
option_hint EvalOrCheck = codes "`eval` and `check` take --output FORMAT, once"
option_hint Run = codes "`run` takes --workers N, --plain, --ordered and --output FORMAT, each once"
option_hint Explain =
    codes "`explain` takes one of --event N, --run NAME and --metric NAME, and --output FORMAT, each once"

-- where the document comes from, since it is no word
abbrev pub document_hint : Taker → Text
document_hint EvalOrCheck =
    codes "the document is read from standard input, as by: argo_judge COMMAND < document.json"
document_hint Run =
    codes "the document is read from standard input, as by: argo_judge run --plain < document.json"
document_hint Explain =
    codes "the document is read from standard input, as by: argo_judge explain < document.json"

abbrev pub taker_hint : Taker → (word : Text) → Text
taker_hint taker word = if is_option word then option_hint taker else document_hint taker

abbrev pub list_hint : (word : Text) → Text
list_hint word = if is_option word then codes "`list` has no options but --help" else document_hint EvalOrCheck

-- what the value of an option is
abbrev pub noun_of : Valued → Text
noun_of Workers = codes "number"
noun_of Output = codes "format"
noun_of Event = codes "number"
noun_of RunName = codes "name"
noun_of MetricName = codes "name"

-- an option ends the words without its value
abbrev pub no_value_after : Valued → Text
no_value_after option = codes " has no " ++ (noun_of option ++ codes " after it")

-- an option in the place of another's value
abbrev pub no_value_is : Valued → Text
no_value_is option = codes " is no " ++ noun_of option

abbrev pub option_and_expected : Valued → Text
option_and_expected option = name_of option ++ (codes " and " ++ expected option)

abbrev pub value_refusal : Valued → (word : Text) → Diagnostic
value_refusal option word =
    if bytes_eq word (name_of option) then word_expecting word (no_value_after option) (expected option)
    else word_expecting word (no_value_is option) (option_and_expected option)

-- a word isn't taken where something else could have come
abbrev pub word_refusal : Next → (word : Text) → Diagnostic
word_refusal Command word =
    word_expecting word (codes " is no command") (codes "`eval`, `check`, `list`, `run` or `explain`, or --help")
word_refusal Nothing word = word_hinted word (list_hint word)
word_refusal (Options taker given) word = word_hinted word (taker_hint taker word)
word_refusal (Value option taker given) word = value_refusal option word

abbrev pub first_refusal : Option (Next × Text) → Diagnostic
first_refusal None =
    expecting (CommandLine None) (usage_error_name errors.Words)
    (codes "`eval`, `check`, `list`, `run` or `explain`, with the document on standard input, or --help")
first_refusal (Some refused) = word_refusal refused.0 refused.1

-- of words of which the first is the program's name
abbrev pub words_diagnostic : (words : List Text) → Diagnostic
words_diagnostic words = first_refusal (first_refused Command (drop 1 words))

-- ---- a value that isn't taken

abbrev pub value_found : Option Text → Option Text
value_found value = option_map (λ value. quoted value ++ codes " isn't taken") value

abbrev pub value_diagnostic : (words : List Text) → Valued → UsageError → Diagnostic
value_diagnostic words option error =
    record (expecting (CommandLine (Some (flag_of option))) (usage_error_name error) (expected option)) {
      found = value_found (value_given option words);
    }

-- ---- each refusal

unfoldable pub usage_diagnostic : (words : List Text) → UsageError → Diagnostic
usage_diagnostic words errors.Words = words_diagnostic words
usage_diagnostic words errors.Workers = value_diagnostic words Workers errors.Workers
usage_diagnostic words errors.Event = value_diagnostic words Event errors.Event
usage_diagnostic words errors.Output = value_diagnostic words Output errors.Output
usage_diagnostic words errors.Conflict =
    expecting (CommandLine (Some flags.Ordered)) (usage_error_name errors.Conflict)
    (codes "--ordered or --plain, not both")
usage_diagnostic words errors.Several =
    expecting (CommandLine None) (usage_error_name errors.Several)
    (codes "one of --event, --run and --metric, not several")
usage_diagnostic words errors.OutOfMemory = plain_diagnostic (CommandLine None) (usage_error_name errors.OutOfMemory)

-- whether the value given for `--output` is `json`
abbrev pub asks_for_json : (words : List Text) → Bool
asks_for_json words = option_map_or (λ format. bytes_eq format (codes "json")) (value_given Output words) false
