-- The number of workers of a command that is named is in its bounds.
use Rattle.std.proofs.Common.{ap, List, ◌≡◌, ◌≤◌, ℕ, Bool, true, false, Option, Some, None, Result, Ok, Err, arith, cond, refl, sym, subst, ◌∙◌, codes}
use Rattle.std.specs.Prelude.{IfOk}
use Rattle.std.specs.Option.{option_map_or}
use Rattle.std.specs.Str.{bytes_eq}
use Rattle.std.specs.Str.Parse.{digits_value, without_leading_plus}
use Rattle.ar_value.specs.Limits.{most_workers}
use Rattle.clap.specs.Words.{Row, Text, first_of}
use Rattle.clap.specs.ValueTests.{is_unsigned_in}
use Rattle.clap.specs.declared.builder.value_parser.ValueParser.TheVariants as vp
use Rattle.clap.proofs.ValueTestLemmas.{accepts-Accepts}
use Rattle.ar_command_line.specs.CommandLine.{command_named, event_of, explain_command, explain_of, format_of, formatted, has_flag, named, number_of_workers, run_command, run_of, selection_of, workers_of}
use Rattle.ar_command_line.specs.declared.command_line.Format.{Format}
use Rattle.ar_command_line.specs.declared.command_line.Command.{Command}
use Rattle.ar_command_line.specs.declared.command_line.Command.TheVariants.{Run, Ordered}
use Rattle.ar_command_line.specs.declared.command_line.UsageError.{UsageError}
use Rattle.ar_command_line.specs.declared.command_line.UsageError.TheVariants.{Words, Workers, Event, Output, Several}
use Rattle.ar_command_line.specs.Selection.{Selected}
use Rattle.ar_command_line.specs.Task.{Task, asked, task_of}
use Rattle.ar_command_line.specs.Task as task

abbrev Bounds : ℕ → Type 0
Bounds n = (1 ≤ n) × (n ≤ most_workers)

number_bounds : (text : Text) (n : ℕ) → number_of_workers text ≡ Some n → Bounds n
number_bounds text n = go (is_unsigned_in 1 most_workers text) refl
  where
    go : (b : Bool) → is_unsigned_in 1 most_workers text ≡ b → cond b (Some (digits_value 10 (without_leading_plus text))) None ≡ Some n → Bounds n
    go true inside is =
        let bounds = accepts-Accepts false (vp.Unsigned 1 most_workers) text inside in
        let least = bounds.2 in
        let most = bounds.3 in
        let same : digits_value 10 (without_leading_plus text) ≡ n = cc in
        (omega (arith, least, same), omega (arith, most, same))
    go false inside is = cc

given_bounds : (given : Option Text) (n : ℕ) → option_map_or number_of_workers given (Some 4) ≡ Some n → Bounds n
given_bounds None n is = let same : 4 ≡ n = cc in (omega (arith, same), omega (arith, same))
given_bounds (Some text) n is = number_bounds text n is

-- a command that is one with n workers
abbrev HasWorkers : Task → ℕ → Type 0
HasWorkers (task.eval format) n = ⊥
HasWorkers (task.check format) n = ⊥
HasWorkers task.list n = ⊥
HasWorkers (task.plain format) n = ⊥
HasWorkers (task.run workers format) n = workers ≡ n
HasWorkers (task.ordered workers format) n = workers ≡ n
HasWorkers (task.explain selected format) n = ⊥

abbrev Names : Result Task UsageError → ℕ → Type 0
Names (Ok own) n = HasWorkers own n
Names (Err error) n = ⊥

run_of_bounds : (plain ordered : Bool) (workers n : ℕ) (format : Option Format) → Names (option_map_or (run_of plain ordered workers) format (Err Output)) n → workers ≡ n
run_of_bounds plain ordered workers n None is = absurd is
run_of_bounds false false workers n (Some format) is = is
run_of_bounds true false workers n (Some format) is = absurd is
run_of_bounds false true workers n (Some format) is = is
run_of_bounds true true workers n (Some format) is = absurd is

run_bounds : (rows : List Row) (n : ℕ) → Names (run_command rows) n → Bounds n
run_bounds rows n = go (workers_of rows) refl
  where
    plain : Bool
    plain = has_flag (codes "plain") rows

    ordered : Bool
    ordered = has_flag (codes "ordered") rows

    go : (o : Option ℕ) → workers_of rows ≡ o → Names (option_map_or (λ workers. option_map_or (run_of plain ordered workers) (format_of rows) (Err Output)) o (Err Workers)) n → Bounds n
    go None are is = absurd is
    go (Some k) are is = given_bounds (first_of (codes "workers") rows) n (are ∙ ap Some (run_of_bounds plain ordered k n (format_of rows) is))

-- a command that has a format and no workers
none_named : (command : Format → Task) (n : ℕ) → ((format : Format) → HasWorkers (command format) n → ⊥) → (format : Option Format) → Names (option_map_or (λ format. Ok (command format)) format (Err Output)) n → ⊥
none_named command n none None is = is
none_named command n none (Some format) is = none format is

selected_none : (selected : Option Selected) (format : Format) (n : ℕ) → Names (option_map_or (λ selected. Ok (task.explain selected format)) selected (Err Several)) n → ⊥
selected_none None format n is = is
selected_none (Some selected) format n is = is

explain_none : (run metric : Option Text) (event : Option (Option ℕ)) (format : Option Format) (n : ℕ)
    → Names (option_map_or (λ event. option_map_or (explain_of run metric event) format (Err Output)) event (Err Event)) n → ⊥
explain_none run metric None format n is = is
explain_none run metric (Some event) None n is = is
explain_none run metric (Some event) (Some format) n is = selected_none (selection_of event run metric) format n is

named_bounds : (name : Text) (rows : List Row) (n : ℕ) → Names (named name rows) n → Bounds n
named_bounds name rows n =
    go (bytes_eq name (codes "eval")) (bytes_eq name (codes "check")) (bytes_eq name (codes "list")) (bytes_eq name (codes "run"))
    (bytes_eq name (codes "explain")) (run_bounds rows n)
  where
    go : (a b c d e : Bool) → (Names (run_command rows) n → Bounds n)
        → Names (cond a (formatted task.eval rows) (cond b (formatted task.check rows) (cond c (Ok task.list) (cond d (run_command rows)
        (cond e (explain_command rows) (Err Words)))))) n → Bounds n
    go true b c d e known is = absurd (none_named task.eval n (λ format has. has) (format_of rows) is)
    go false true c d e known is = absurd (none_named task.check n (λ format has. has) (format_of rows) is)
    go false false true d e known is = absurd is
    go false false false true e known is = known is
    go false false false false true known is =
        absurd (explain_none (first_of (codes "run") rows) (first_of (codes "metric") rows) (event_of rows) (format_of rows) n is)
    go false false false false false known is = absurd is

command_bounds : (subcommand : Option (Text × List Row)) (n : ℕ) → Names (command_named subcommand) n → Bounds n
command_bounds None n is = absurd is
command_bounds (Some s) n is = named_bounds s.0 s.1 n is

-- an answer that the words name
in_bounds : (subcommand : Option (Text × List Row)) (r : Result Command UsageError) (command : Command) (n : ℕ)
    → IfOk r (λ command. command_named subcommand ≡ Ok (task_of command)) → r ≡ Ok command → HasWorkers (task_of command) n → Bounds n
in_bounds subcommand (Ok own) command n reported is has =
    command_bounds subcommand n (subst (λ (named : Result Task UsageError). Names named n) (sym (reported ∙ ap asked is)) has)
in_bounds subcommand (Err error) command n reported is has = cc

pub run_in_bounds : (subcommand : Option (Text × List Row)) (r : Result Command UsageError) (n : ℕ) (format : Format)
    → IfOk r (λ command. command_named subcommand ≡ Ok (task_of command)) → r ≡ Ok (Run n format) → Bounds n
run_in_bounds subcommand r n format reported is = in_bounds subcommand r (Run n format) n reported is refl

pub ordered_in_bounds : (subcommand : Option (Text × List Row)) (r : Result Command UsageError) (n : ℕ) (format : Format)
    → IfOk r (λ command. command_named subcommand ≡ Ok (task_of command)) → r ≡ Ok (Ordered n format) → Bounds n
ordered_in_bounds subcommand r n format reported is = in_bounds subcommand r (Ordered n format) n reported is refl
