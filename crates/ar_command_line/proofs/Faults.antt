-- Where `clap` finds no fault in the words, they name a command, but for the values of its options.
use Rattle.std.proofs.Common.{◌≡◌, ◌≢◌, Bool, true, false, List, [], ◌∷◌, Option, Some, None, Ok, Err, option_map, is_some, refl, ap, cond, find, ◌∙◌, sym, subst, Result, inl, inr, IfOk, codes, ℕ}
use Rattle.std.specs.Prelude.{⊤, unwrap_or, IsErr}
use Rattle.std.specs.Option.{option_map_or}
use Rattle.std.specs.Result.{result_err}
use Rattle.std.proofs.lemmas.Result.{IfOk-weaker}
use Rattle.clap.specs.Words.{App, first_of, HasKind, HasMatchesOf, IsAmong, FailsBy, Kinds, Row, Shape, Text, fault_of, is_simple, is_simple_and_free, kind_of, subcommand_of, subcommand_rows_of}
use Rattle.clap.specs.Faults.{check_fault, defaults_fault, entered_fault, level_fault, settle_fault, walk_fault}
use Rattle.clap.specs.Walk.{Held, Names, finished, nothing_held, settled, walk, walk_from}
use Rattle.clap.specs.Kinds.{or_else}
use Rattle.clap.specs.Simple.{argument_words, built, entered, names_of, rows_at}
use Rattle.clap.specs.declared.error.Error.{Error}
use Rattle.clap.specs.declared.error.kind.ErrorKind.{ErrorKind}
use Rattle.clap.specs.declared.error.kind.ErrorKind.TheVariants.{OutOfMemory}
use Rattle.clap.specs.declared.parser.matches.ArgMatches.{ArgMatches}
use Rattle.ar_command_line.proofs.Bounds.{ordered_in_bounds, run_in_bounds}
use Rattle.ar_command_line.specs.CommandLine.{AsksForCommand, AsksForText, application, command_named, event_of, explain_command, explain_of, format_of, has_flag, is_request, named, of_kind, run_command, run_of, selection_of, workers_of}
use Rattle.ar_command_line.specs.declared.command_line.Command.{Command}
use Rattle.ar_command_line.specs.declared.command_line.UsageError.{UsageError}
use Rattle.ar_command_line.specs.declared.command_line.Format.{Format}
use Rattle.ar_command_line.specs.declared.command_line.UsageError.TheVariants.{Words, Event, Output, Several}
use Rattle.ar_command_line.specs.Selection.{Selected}
use Rattle.ar_command_line.specs.Task.{Task, asked, task_of}
use Rattle.ar_command_line.specs.Task as task

-- ---- the command line is one of those of which `clap` says what a parse gives

pub simple : is_simple application ≡ true
unfolding application
simple = refl

pub simple_and_free : is_simple_and_free application ≡ true
unfolding application
simple_and_free = refl

-- ---- a subcommand is named

later : (a b : Kinds) → or_else a b ≡ [] → b ≡ []
later [] b none = none
later (k ∷ ks) b none = cc

has_subcommand : (s : Shape) (rows : List Row) (has : Bool) → s.arg_required_else_help ≡ false → s.subcommand_required ≡ true → check_fault s rows has ≡ [] → has ≡ true
has_subcommand s rows true help required none = refl
has_subcommand s rows false help required none = let bad = rw (help, required) at none in cc

-- each of the subcommands is known
abbrev AllKnown : List Shape → Type 0
AllKnown [] = ⊤
AllKnown (s ∷ rest) = ((rows : List Row) → named s.name rows ≢ Err Words) × AllKnown rest

no_words : (plain ordered : Bool) (workers : ℕ) (format : Option Format) → option_map_or (run_of plain ordered workers) format (Err Output) ≢ Err Words
no_words plain ordered workers None bad = cc
no_words false false workers (Some format) bad = cc
no_words true false workers (Some format) bad = cc
no_words false true workers (Some format) bad = cc
no_words true true workers (Some format) bad = cc

run_known : (rows : List Row) → run_command rows ≢ Err Words
run_known rows = go (workers_of rows) refl
  where
    go : (o : Option _) → workers_of rows ≡ o → run_command rows ≢ Err Words
    go (Some n) is bad = let bad2 = rw is at bad in no_words (has_flag (codes "plain") rows) (has_flag (codes "ordered") rows) n (format_of rows) bad2
    go None is bad = let bad2 = rw is at bad in cc

no_selection : (selected : Option Selected) (format : Format) → option_map_or (λ selected. Ok (task.explain selected format)) selected (Err Several) ≢ Err Words
no_selection None format bad = cc
no_selection (Some selected) format bad = cc

explain_words : (run metric : Option Text) (event : Option (Option ℕ)) (format : Option Format)
    → option_map_or (λ event. option_map_or (explain_of run metric event) format (Err Output)) event (Err Event) ≢ Err Words
explain_words run metric None format bad = cc
explain_words run metric (Some event) None bad = cc
explain_words run metric (Some event) (Some format) bad = no_selection (selection_of event run metric) format bad

explain_known : (rows : List Row) → explain_command rows ≢ Err Words
explain_known rows = explain_words (first_of (codes "run") rows) (first_of (codes "metric") rows) (event_of rows) (format_of rows)

formatted_known : (command : Format → Task) (format : Option Format) → option_map_or (λ format. Ok (command format)) format (Err Output) ≢ Err Words
formatted_known command None bad = cc
formatted_known command (Some format) bad = cc

all_known : AllKnown (built application).subs
unfolding application
all_known = (
  λ rows. formatted_known task.eval (format_of rows),
  (
    λ rows. formatted_known task.check (format_of rows),
    (
      λ rows bad. cc,
      (run_known, (explain_known, tt)),
    ),
  ),
)

known : (f : Shape → Bool) (words : List Text) (subs : List Shape) → AllKnown subs
    → is_some (option_map (λ s. rows_at s words) (find f subs)) ≡ true → command_named (option_map (λ s. rows_at s words) (find f subs)) ≢ Err Words
known f words [] all = λ some. cc
known f words (s ∷ rest) all = go (f s) (known f words rest all.1)
  where
    go : (b : Bool)
        → (is_some (option_map (λ s. rows_at s words) (find f rest)) ≡ true → command_named (option_map (λ s. rows_at s words) (find f rest)) ≢ Err Words)
        → is_some (option_map (λ s. rows_at s words) (cond b (Some s) (find f rest))) ≡ true
        → command_named (option_map (λ s. rows_at s words) (cond b (Some s) (find f rest))) ≢ Err Words
    go true below some = all.0 (rows_at s words).1
    go false below some = below some

entered_known : (stop : Option (Text × List Text)) → is_some (entered (built application) stop) ≡ true → command_named (entered (built application) stop) ≢ Err Words
entered_known None some = cc
entered_known (Some p) some = known _ p.1 (built application).subs all_known some

-- a level of a parse where a subcommand is required, and no fault is found
level_has : (s : Shape) (names : Names) (h : Held) (words : List Text) (has : Bool) (below : Kinds) → s.arg_required_else_help ≡ false → s.subcommand_required ≡ true
    → level_fault s names h words has below ≡ [] → has ≡ true
level_has s names h words has below help required none =
    let end = (walk s.rules names h words).held in
    let after_walk = later (walk_fault s names (walk_from h) words) _ none in
    let after_below = later below _ after_walk in
    let after_settling = later (settle_fault s.rules s.args_override_self end) _ after_below in
    let checked = later (defaults_fault (settled s.rules end).rows s.rules) _ after_settling in
    has_subcommand s (finished s.rules end) has help required checked

-- where `clap` finds no fault, the words name a command, but for its number of workers
pub named_or_workers : (words : List Text) → fault_of application words ≡ [] → command_named (subcommand_of application words) ≢ Err Words
unfolding application
named_or_workers words none =
    let whole = built application in
    let rest = argument_words application words in
    let stop = (walk whole.top.rules (names_of whole) nothing_held rest).stopped in
    entered_known stop
    (level_has whole.top (names_of whole) nothing_held rest (is_some (entered whole stop)) (entered_fault whole stop) refl refl none)

-- ---- a parse of the words

pub subcommand_is : (a : App) (words : List Text) (m : ArgMatches) → a ≡ application → HasMatchesOf a words m → subcommand_rows_of m ≡ subcommand_of application words
subcommand_is a words m is matches = (subst (λ (x : App). HasMatchesOf x words m) is matches simple).1

-- an outcome of a parse of the words by the command line
abbrev pub Parses : App → List Text → Result ArgMatches Error → Type 0
Parses a words r = is_simple_and_free a ≡ true → FailsBy (fault_of a words) r

pub taken : (a : App) (words : List Text) (m : ArgMatches) → a ≡ application → Parses a words (Ok m) → fault_of application words ≡ []
taken a words m is parses = subst (λ (x : App). Parses x words (Ok m)) is parses simple_and_free

no_kind : (kinds : Kinds) (e : Error) → HasKind kinds e → kind_of e ≢ OutOfMemory → kinds ≢ []
no_kind [] e (inl memory) other none = other memory
no_kind [] e (inr among) other none = absurd among
no_kind (k ∷ ks) e has other none = cc

pub refused : (a : App) (words : List Text) (e : Error) → a ≡ application → Parses a words (Err e) → kind_of e ≢ OutOfMemory → fault_of application words ≢ []
refused a words e is parses = no_kind (fault_of application words) e (subst (λ (x : App). Parses x words (Err e)) is parses simple_and_free)

-- the answer where `clap` refuses the words
pub refused_words : (a : App) (words : List Text) (e : Error) → a ≡ application → Parses a words (Err e) → of_kind (kind_of e) ≡ Words
    → fault_of application words ≢ []
refused_words a words e is parses answer = refused a words e is parses (λ memory. let bad = rw memory at answer in cc)

if_named : {P : Type 0} (x : Result Task UsageError) (r : Result Command UsageError) → asked r ≡ x → P → IfOk r (λ command. P × (x ≡ Ok (task_of command)))
if_named x (Ok command) is p = (p, sym is)
if_named x (Err error) is p = tt

-- and where it takes them
pub answers : (a : App) (words : List Text) (m : ArgMatches) (r : Result Command UsageError) → a ≡ application → Parses a words (Ok m)
    → HasMatchesOf a words m → asked r ≡ command_named (subcommand_rows_of m) → AsksForCommand words r
answers a words m r is parses matches answer =
    let free = taken a words m is parses in
    let same : asked r ≡ command_named (subcommand_of application words) = answer ∙ ap command_named (subcommand_is a words m is matches) in
    let named : IfOk r (λ command. (fault_of application words ≡ []) × (command_named (subcommand_of application words) ≡ Ok (task_of command))) =
    if_named _ r same free in
    let reported : IfOk r (λ command. command_named (subcommand_of application words) ≡ Ok (task_of command)) = IfOk-weaker r _ _ (λ command both. both.1) named in
    record {
      named = named;
      bounds = λ n format. run_in_bounds (subcommand_of application words) r n format reported;
      ordered_bounds = λ n format. ordered_in_bounds (subcommand_of application words) r n format reported;
      words = λ bad _. named_or_workers words free (sym same ∙ ap asked bad);
      workers = λ bad. (free, sym same ∙ ap asked bad);
      event = λ bad. (free, sym same ∙ ap asked bad);
      output = λ bad. (free, sym same ∙ ap asked bad);
      conflict = λ bad. (free, sym same ∙ ap asked bad);
      several = λ bad. (free, sym same ∙ ap asked bad);
    }

pub same_error : (e f : UsageError) → ◌≡◌ {A = Result Command UsageError} (Err e) (Err f) → e ≡ f
same_error e f is = ap (λ (r : Result Command UsageError). unwrap_or (result_err r) e) is

-- ---- the texts of `--help` and `--version`

pub taken_shows : (a : App) (words : List Text) (m : ArgMatches) → a ≡ application → Parses a words (Ok m) → AsksForText (fault_of application words) false
taken_shows a words m is parses = subst (λ (kinds : Kinds). AsksForText kinds false) (sym (taken a words m is parses)) refl

among_shows : (k : ErrorKind) (kinds : Kinds) → IsAmong k kinds → AsksForText kinds (is_request k)
among_shows k [] among = absurd among
among_shows k (x ∷ []) (inl is) = ap is_request is
among_shows k (x ∷ []) (inr among) = absurd among
among_shows k (x ∷ y ∷ rest) (inl is) = inl (ap is_request is)
among_shows k (x ∷ y ∷ rest) (inr among) = inr (among_shows k (y ∷ rest) among)

no_ok : {X F : Type 0} (P : X → Type 0) (r : Result X F) → IsErr r → IfOk r P
no_ok P (Ok x) is = cc
no_ok P (Err f) is = tt

pub error_shows : {X F : Type 0} (a : App) (words : List Text) (e : Error) (r : Result (Option X) F) → a ≡ application → Parses a words (Err e)
    → IfOk r (λ text. is_some text ≡ is_request (kind_of e)) → (kind_of e ≡ OutOfMemory → IsErr r)
    → IfOk r (λ text. AsksForText (fault_of application words) (is_some text))
error_shows {X} {F} a words e r is parses reported memory = go (subst (λ (x : App). Parses x words (Err e)) is parses simple_and_free)
  where
    go : HasKind (fault_of application words) e → IfOk r (λ text. AsksForText (fault_of application words) (is_some text))
    go (inl none) = no_ok _ r (memory none)
    go (inr among) =
        IfOk-weaker r _ _ (λ text same. subst (AsksForText (fault_of application words)) (sym same) (among_shows (kind_of e) (fault_of application words) among)) reported
