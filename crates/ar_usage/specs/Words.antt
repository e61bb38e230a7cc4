-- The words of a command line: the first that isn't taken, and the values of options.
use Rattle.std.specs.Prelude.{ℕ, Bool, true, false, not, ◌&&◌, ◌||◌, nat_eq, if◌then◌else◌, List, [], ◌∷◌, codes, drop, length, Option, Some, None, is_some}
use Rattle.std.specs.List.{starts_with}
use Rattle.std.specs.Option.{option_and_then, option_or}
use Rattle.std.specs.Str.{bytes_eq}
use Rattle.ar_value.specs.Terms.{Text}
use Rattle.ar_diagnostic.specs.Place.{flag_name}
use Rattle.ar_diagnostic.specs.declared.place.Flag.{Flag}
use Rattle.ar_diagnostic.specs.declared.place.Flag.TheVariants as flags
use Rattle.ar_usage.specs.declared.words.Given.{Given}
use Rattle.ar_usage.specs.declared.words.Next.{Next}
use Rattle.ar_usage.specs.declared.words.Next.TheVariants.{Command, Nothing, Options, Value}
use Rattle.ar_usage.specs.declared.words.Taker.{Taker}
use Rattle.ar_usage.specs.declared.words.Taker.TheVariants.{EvalOrCheck, Run, Explain}
use Rattle.ar_usage.specs.declared.words.Valued.{Valued}
use Rattle.ar_usage.specs.declared.words.Valued.TheVariants.{Workers, Output, Event, RunName, MetricName}

-- ---- options that have a value

abbrev pub flag_of : Valued → Flag
flag_of Workers = flags.Workers
flag_of Output = flags.Output
flag_of Event = flags.Event
flag_of RunName = flags.Run
flag_of MetricName = flags.Metric

abbrev pub name_of : Valued → Text
name_of option = flag_name (flag_of option)

-- what is expected as the value
abbrev pub expected : Valued → Text
expected Workers = codes "a whole number from 1 to 16"
expected Output = codes "text or json"
expected Event = codes "the number of a measurement, from 0"
expected RunName = codes "the name of a run"
expected MetricName = codes "the name of a metric"

abbrev pub is_given : Valued → Given → Bool
is_given Workers given = given.workers
is_given Output given = given.output
is_given Event given = given.event
is_given RunName given = given.run
is_given MetricName given = given.metric

abbrev pub with : Valued → Given → Given
with Workers given = record given { workers = true }
with Output given = record given { output = true }
with Event given = record given { event = true }
with RunName given = record given { run = true }
with MetricName given = record given { metric = true }

abbrev pub after_prefix : (prefix word : Text) → Option Text
after_prefix prefix word = if starts_with nat_eq word prefix then Some (drop (length prefix) word) else None

-- what a word has after an option's name and `=`
abbrev pub value_in : Valued → (word : Text) → Option Text
value_in option word = option_and_then (after_prefix (codes "=")) (after_prefix (name_of option) word)

-- ---- what may come next

-- an option and then its value, or both in one word, if it wasn't given before
abbrev pub after_valued : Valued → Taker → Given → (word : Text) → Option Next
after_valued option taker given word =
    if is_given option given then None
    else (if bytes_eq word (name_of option) then Some (Value option taker (with option given))
    else (if is_some (value_in option word) then Some (Options taker (with option given)) else None))

abbrev pub is_new : (name word : Text) → (given : Bool) → Bool
is_new name word given = bytes_eq word name && not given

-- an option of `run` that has no value
abbrev pub after_flag : Given → (word : Text) → Option Next
after_flag given word =
    if is_new (codes "--plain") word given.plain then Some (Options Run (record given { plain = true }))
    else (if is_new (codes "--ordered") word given.ordered then Some (Options Run (record given { ordered = true }))
    else None)

-- the options that one command alone takes, each once
abbrev pub after_own : Taker → Given → (word : Text) → Option Next
after_own EvalOrCheck given word = None
after_own Run given word = option_or (after_valued Workers Run given word) (after_flag given word)
after_own Explain given word =
    option_or (after_valued Event Explain given word)
    (option_or (after_valued RunName Explain given word) (after_valued MetricName Explain given word))

-- each command that takes options takes `--output`, once
abbrev pub after_option : Taker → Given → (word : Text) → Option Next
after_option taker given word = option_or (after_valued Output taker given word) (after_own taker given word)

abbrev pub has_output : (word : Text) → Bool
has_output word = bytes_eq word (codes "eval") || bytes_eq word (codes "check")

abbrev pub none_given : Given
none_given =
    record {
      workers = false;
      plain = false;
      ordered = false;
      output = false;
      event = false;
      run = false;
      metric = false;
    }

-- `-` alone is no option
abbrev pub is_option : (word : Text) → Bool
is_option word = starts_with nat_eq word (codes "-") && not (bytes_eq word (codes "-"))

-- what may come after a word, if it is taken
abbrev pub next_after : Next → (word : Text) → Option Next
next_after Command word =
    if bytes_eq word (codes "run") then Some (Options Run none_given)
    else (if bytes_eq word (codes "explain") then Some (Options Explain none_given)
    else (if has_output word then Some (Options EvalOrCheck none_given)
    else (if bytes_eq word (codes "list") then Some Nothing
    else None)))
next_after Nothing word = None
next_after (Options taker given) word = after_option taker given word
next_after (Value option taker given) word = if is_option word then None else Some (Options taker given)

abbrev pub following_or : {A B : Type 0} → (refused : B) → (rest : A → Option B) → Option A → Option B
following_or refused rest None = Some refused
following_or refused rest (Some following) = rest following

-- an option that has a value requires it after it
abbrev pub at_end : Next → Option (Next × Text)
at_end (Value option taker given) = Some (Value option taker given, name_of option)
at_end next = None

-- the first word that isn't taken, with what could have come instead, or the last if something has to come after
-- it
unfoldable pub first_refused : Next → (words : List Text) → Option (Next × Text)
first_refused next [] = at_end next
first_refused next (word ∷ words) =
    following_or (next, word) (λ following. first_refused following words) (next_after next word)

-- ---- the values of options

abbrev pub first_of : (words : List Text) → Option Text
first_of [] = None
first_of (word ∷ words) = Some word

-- the value of an option: the word after it, or what comes after its `=`
abbrev pub option_value : Valued → (word : Text) → (rest : List Text) → Option Text
option_value option word rest = if bytes_eq word (name_of option) then first_of rest else value_in option word

-- the value of an option as it is written
unfoldable pub value_given : Valued → (words : List Text) → Option Text
value_given option [] = None
value_given option (word ∷ words) = option_or (option_value option word words) (value_given option words)
