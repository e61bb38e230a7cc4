-- Worked command lines, computed by the definitions alone.
use Rattle.std.proofs.Common.{◌≡◌, ◌-◌, ◌^◌, List, [], ◌∷◌, Result, Ok, Err, codes, refl}
use Rattle.clap.specs.Words.{Kinds, Text, fault_of, subcommand_of}
use Rattle.clap.specs.declared.error.kind.ErrorKind.TheVariants as kind
use Rattle.clap.proofs.OnLiterals.{clap_on_literals}
use Rattle.ar_command_line.specs.CommandLine.{application, command_named}
use Rattle.ar_command_line.specs.Selection as selection
use Rattle.ar_command_line.specs.Task.{Task}
use Rattle.ar_command_line.specs.Task as task
use Rattle.ar_command_line.specs.declared.command_line.Format.TheVariants as formats
use Rattle.ar_command_line.specs.declared.command_line.UsageError.{UsageError}
use Rattle.ar_command_line.specs.declared.command_line.UsageError.TheVariants.{Workers, Event, Output, Conflict, Several}

-- what is returned for the words after the program's name, where `clap` finds no fault in them
abbrev asked : List Text → Result Task UsageError
asked words = command_named (subcommand_of application (codes "argo_judge" ∷ words))

abbrev faults : List Text → Kinds
faults words = fault_of application (codes "argo_judge" ∷ words)

abbrev run_with : Text → List Text
run_with number = codes "run" ∷ codes "--workers" ∷ number ∷ []

eval : (faults (codes "eval" ∷ []) ≡ []) × (asked (codes "eval" ∷ []) ≡ Ok (task.eval formats.Text))
unfolding application clap_on_literals
eval = (refl, refl)

four : (faults (codes "run" ∷ []) ≡ []) × (asked (codes "run" ∷ []) ≡ Ok (task.run 4 formats.Text))
unfolding application clap_on_literals
four = (refl, refl)

two : (faults (run_with (codes "2")) ≡ []) × (asked (run_with (codes "2")) ≡ Ok (task.run 2 formats.Text))
unfolding application clap_on_literals
two = (refl, refl)

sixteen : (faults (codes "run" ∷ codes "--workers=16" ∷ []) ≡ []) × (asked (codes "run" ∷ codes "--workers=16" ∷ []) ≡ Ok (task.run 16 formats.Text))
unfolding application clap_on_literals
sixteen = (refl, refl)

plain : (faults (codes "run" ∷ codes "--plain" ∷ []) ≡ []) × (asked (codes "run" ∷ codes "--plain" ∷ []) ≡ Ok (task.plain formats.Text))
unfolding application clap_on_literals
plain = (refl, refl)

ordered : (asked (codes "run" ∷ codes "--ordered" ∷ []) ≡ Ok (task.ordered 4 formats.Text)) × (asked (codes "run" ∷ codes "--workers" ∷ codes "2" ∷ codes "--ordered" ∷ []) ≡ Ok (task.ordered 2 formats.Text))
unfolding application clap_on_literals
ordered = (refl, refl)

both : (faults (codes "run" ∷ codes "--ordered" ∷ codes "--plain" ∷ []) ≡ []) × (asked (codes "run" ∷ codes "--ordered" ∷ codes "--plain" ∷ []) ≡ Err Conflict)
unfolding application clap_on_literals
both = (refl, refl)

number_unused : asked (codes "run" ∷ codes "--plain" ∷ codes "--workers" ∷ codes "3" ∷ []) ≡ Ok (task.plain formats.Text)
unfolding application clap_on_literals
number_unused = refl

number_checked : asked (codes "run" ∷ codes "--plain" ∷ codes "--workers" ∷ codes "0" ∷ []) ≡ Err Workers
unfolding application clap_on_literals
number_checked = refl

bad_numbers : (asked (run_with (codes "0")) ≡ Err Workers) × (asked (run_with (codes "17")) ≡ Err Workers) × (asked (run_with (codes "x")) ≡ Err Workers)
unfolding application clap_on_literals
bad_numbers = (refl, refl, refl)

no_command : faults [] ≡ kind.MissingSubcommand ∷ []
unfolding application clap_on_literals
no_command = refl

flags_of_run : (faults (codes "eval" ∷ codes "--plain" ∷ []) ≡ kind.UnknownArgument ∷ [])
    × (faults (codes "--workers" ∷ codes "2" ∷ codes "run" ∷ []) ≡ kind.UnknownArgument ∷ [])
unfolding application clap_on_literals
flags_of_run = (refl, refl)

twice : faults (codes "run" ∷ codes "--plain" ∷ codes "--plain" ∷ []) ≡ kind.ArgumentConflict ∷ []
unfolding application clap_on_literals
twice = refl

requests : (faults (codes "run" ∷ codes "--help" ∷ []) ≡ kind.DisplayHelp ∷ []) × (faults (codes "--version" ∷ []) ≡ kind.DisplayVersion ∷ [])
unfolding application clap_on_literals
requests = (refl, refl)

as_json : (asked (codes "eval" ∷ codes "--output" ∷ codes "json" ∷ []) ≡ Ok (task.eval formats.Json))
    × (asked (codes "check" ∷ codes "--output=text" ∷ []) ≡ Ok (task.check formats.Text))
    × (asked (codes "run" ∷ codes "--ordered" ∷ codes "--output=json" ∷ []) ≡ Ok (task.ordered 4 formats.Json))
unfolding application clap_on_literals
as_json = (refl, refl, refl)

no_format : (asked (codes "check" ∷ codes "--output" ∷ codes "xml" ∷ []) ≡ Err Output)
    × (asked (codes "run" ∷ codes "--workers=0" ∷ codes "--output=" ∷ []) ≡ Err Workers)
    × (asked (codes "run" ∷ codes "--plain" ∷ codes "--ordered" ∷ codes "--output=JSON" ∷ []) ≡ Err Output)
unfolding application clap_on_literals
no_format = (refl, refl, refl)

lists_have_none : faults (codes "list" ∷ codes "--output" ∷ codes "json" ∷ []) ≡ kind.UnknownArgument ∷ []
unfolding application clap_on_literals
lists_have_none = refl

explained : (faults (codes "explain" ∷ []) ≡ []) × (asked (codes "explain" ∷ []) ≡ Ok (task.explain selection.all formats.Text))
    × (asked (codes "explain" ∷ codes "--event" ∷ codes "0" ∷ codes "--output=json" ∷ []) ≡ Ok (task.explain (selection.event 0) formats.Json))
unfolding application clap_on_literals
explained = (refl, refl, refl)

explained_by_name : (asked (codes "explain" ∷ codes "--run=canary-1" ∷ []) ≡ Ok (task.explain (selection.of_run (codes "canary-1")) formats.Text))
    × (asked (codes "explain" ∷ codes "--metric" ∷ codes "" ∷ []) ≡ Ok (task.explain (selection.of_metric (codes "")) formats.Text))
unfolding application clap_on_literals
explained_by_name = (refl, refl)

last_event : (asked (codes "explain" ∷ codes "--event=18446744073709551615" ∷ []) ≡ Ok (task.explain (selection.event (2 ^ 64 - 1)) formats.Text))
    × (asked (codes "explain" ∷ codes "--event=18446744073709551616" ∷ []) ≡ Err Event)
unfolding application clap_on_literals
last_event = (refl, refl)

bad_events : (asked (codes "explain" ∷ codes "--event" ∷ codes "first" ∷ codes "--output=xml" ∷ []) ≡ Err Event)
    × (asked (codes "explain" ∷ codes "--event=" ∷ codes "--run=a" ∷ []) ≡ Err Event)
    × (asked (codes "explain" ∷ codes "--run=a" ∷ codes "--metric=b" ∷ codes "--output=xml" ∷ []) ≡ Err Output)
unfolding application clap_on_literals
bad_events = (refl, refl, refl)

several : (faults (codes "explain" ∷ codes "--run=a" ∷ codes "--metric=b" ∷ []) ≡ [])
    × (asked (codes "explain" ∷ codes "--run=a" ∷ codes "--metric=b" ∷ []) ≡ Err Several)
    × (asked (codes "explain" ∷ codes "--event=1" ∷ codes "--run=a" ∷ []) ≡ Err Several)
unfolding application clap_on_literals
several = (refl, refl, refl)

explain_takes_few : (faults (codes "explain" ∷ codes "--workers=2" ∷ []) ≡ kind.UnknownArgument ∷ [])
    × (faults (codes "explain" ∷ codes "--event=1" ∷ codes "--event=2" ∷ []) ≡ kind.ArgumentConflict ∷ [])
    × (faults (codes "explain" ∷ codes "--event" ∷ codes "-1" ∷ []) ≡ kind.UnknownArgument ∷ [])
    × (asked (codes "explain" ∷ codes "--event=-1" ∷ []) ≡ Err Event)
unfolding application clap_on_literals
explain_takes_few = (refl, refl, refl, refl)
