-- Worked command lines that are refused, and the lines that say so.
use Rattle.std.specs.Prelude.{◌≡◌, refl, true, false, List, [], ◌∷◌, ◌++◌, codes}
use Rattle.std.specs.Str.{chars}
use Rattle.ar_value.specs.Terms.{Text}
use Rattle.ar_quote.specs.Shown.{quoted}
use Rattle.ar_diagnostic.specs.Diagnostic.{refusal_text_of, words_of}
use Rattle.ar_command_line.specs.declared.command_line.UsageError.{UsageError}
use Rattle.ar_command_line.specs.declared.command_line.UsageError.TheVariants.{Words, Workers, Event, Output, Conflict, Several}
use Rattle.ar_usage.specs.Words.{first_refused, value_given}
use Rattle.ar_usage.specs.Usage.{asks_for_json, usage_diagnostic}

-- the line that says why the words after the program's name are refused
abbrev line : (words : List Text) → UsageError → Text
line words error = refusal_text_of (usage_diagnostic (codes "argo_judge" ∷ words) error)

no_words : line [] Words
    ≡ codes "command line: Words: expected `eval`, `check`, `list`, `run` or `explain`, "
    ++ codes "with the document on standard input, or --help"
unfolding usage_diagnostic first_refused refusal_text_of words_of
no_words = refl

no_command : line (codes "explains" ∷ []) Words
    ≡ codes "command line: Words: \"explains\" is no command; "
    ++ codes "expected `eval`, `check`, `list`, `run` or `explain`, or --help"
unfolding usage_diagnostic first_refused refusal_text_of words_of quoted chars lib.Utf8.encode
no_command = refl

not_taken : (line (codes "run" ∷ codes "now" ∷ []) Words
    ≡ codes "command line: Words: \"now\" isn't taken; "
    ++ codes "the document is read from standard input, as by: argo_judge run --plain < document.json")
    × (line (codes "run" ∷ codes "--workers=3" ∷ codes "--plain" ∷ codes "--workers" ∷ codes "2" ∷ []) Words
    ≡ codes "command line: Words: \"--workers\" isn't taken; "
    ++ codes "`run` takes --workers N, --plain, --ordered and --output FORMAT, each once")
    × (line (codes "explain" ∷ codes "--run=a" ∷ codes "--output=json" ∷ codes "--run" ∷ codes "b" ∷ []) Words
    ≡ codes "command line: Words: \"--run\" isn't taken; "
    ++ codes "`explain` takes one of --event N, --run NAME and --metric NAME, and --output FORMAT, each once")
    × (line (codes "eval" ∷ codes "--nonsense" ∷ []) Words
    ≡ codes "command line: Words: \"--nonsense\" isn't taken; `eval` and `check` take --output FORMAT, once")
    × (line (codes "list" ∷ codes "--output" ∷ codes "json" ∷ []) Words
    ≡ codes "command line: Words: \"--output\" isn't taken; `list` has no options but --help")
unfolding usage_diagnostic first_refused refusal_text_of words_of quoted chars lib.Utf8.encode
not_taken = (refl, refl, refl, refl, refl)

no_value : (line (codes "explain" ∷ codes "--event" ∷ []) Words
    ≡ codes "command line: Words: \"--event\" has no number after it; expected the number of a measurement, from 0")
    × (line (codes "explain" ∷ codes "--run" ∷ codes "--metric" ∷ codes "a" ∷ []) Words
    ≡ codes "command line: Words: \"--metric\" is no name; expected --run and the name of a run")
unfolding usage_diagnostic first_refused refusal_text_of words_of quoted chars lib.Utf8.encode
no_value = (refl, refl)

bad_value : (line (codes "run" ∷ codes "--workers" ∷ codes "17" ∷ []) Workers
    ≡ codes "command line, --workers: Workers: \"17\" isn't taken; expected a whole number from 1 to 16")
    × (line (codes "explain" ∷ codes "--event=x" ∷ []) Event
    ≡ codes "command line, --event: Event: \"x\" isn't taken; expected the number of a measurement, from 0")
    × (line (codes "check" ∷ codes "--output=" ∷ []) Output
    ≡ codes "command line, --output: Output: \"\" isn't taken; expected text or json")
unfolding usage_diagnostic value_given refusal_text_of words_of quoted chars lib.Utf8.encode
bad_value = (refl, refl, refl)

both_or_several : (line [] Conflict
    ≡ codes "command line, --ordered: Conflict: expected --ordered or --plain, not both")
    × (line [] Several ≡ codes "command line: Several: expected one of --event, --run and --metric, not several")
unfolding usage_diagnostic refusal_text_of words_of
both_or_several = (refl, refl)

json_or_not : (asks_for_json (codes "argo_judge" ∷ codes "run" ∷ codes "--output" ∷ codes "json" ∷ []) ≡ true)
    × (asks_for_json (codes "argo_judge" ∷ codes "run" ∷ codes "--output=text" ∷ []) ≡ false)
    × (asks_for_json (codes "argo_judge" ∷ codes "run" ∷ []) ≡ false)
unfolding value_given
json_or_not = (refl, refl, refl)
