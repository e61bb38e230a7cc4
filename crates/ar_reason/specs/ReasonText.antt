-- The text of reasons: the line of each run, the lines of its events, and those of its metrics.
use Rattle.ar_evaluation.specs.EvaluatedText.{condition_text}
use Rattle.std.specs.Prelude.{Bool, if◌then◌else◌, List, [], ◌++◌, codes, flat_map, Option, Some, None, option_map}
use Rattle.ar_value.specs.Terms.{Text}
use Rattle.ar_value.specs.Value as values
use Rattle.ar_bundle.specs.Event.{EventNumber}
use Rattle.ar_limits.specs.declared.phase.Phase.{Phase}
use Rattle.ar_facts.specs.Facts.{MetricFacts}
use Rattle.ar_facts.specs.Names.{phase_name}
use Rattle.ar_facts.specs.Report.{event_line, metric_line, printed_event, printed_metric, run_line}
use Rattle.ar_facts.specs.declared.text.Naming.TheVariants as naming
use Rattle.ar_quote.specs.Shown.{shown_name}
use Rattle.ar_misfit.specs.MisfitText.{misfit_text}
use Rattle.ar_show.specs.Values.{shown_value}
use Rattle.ar_progress.specs.Counts.{changed_counts}
use Rattle.ar_reason.specs.Reason.{Given, Reason, RunReasons, gave_error, gave_misfit, gave_nothing, gave_value}
use Rattle.ar_progress.specs.Settled.{settled_by, settled_text}
use Rattle.ar_progress.specs.Waiting.{run_waits_for, waiting_text, waits_for}
use Rattle.ar_progress.specs.Why.{why_words}
use Rattle.ar_progress.specs.declared.steps.Change.{Change}
use Rattle.ar_progress.specs.declared.waiting.Progress.{Progress}
use Rattle.ar_progress.specs.declared.why.Why.{Why}

-- ---- the lines of an event

abbrev pub given_line : Given → Text
given_line gave_nothing = []
given_line (gave_value value) = codes "  value: " ++ (shown_value value ++ codes "\n")
given_line (gave_error text) = codes "  error: " ++ (shown_value (values.text text) ++ codes "\n")
given_line (gave_misfit misfit) = codes "  misfit: " ++ (misfit_text misfit ++ codes "\n")

-- in the place of conditions
abbrev pub no_condition_line : (no_condition : Bool) → Text
no_condition_line no_condition =
    if no_condition then codes "  no condition: each value is Successful\n" else []

-- a stop changes no counts
abbrev pub change_line : Option Change → Text
change_line None = []
change_line (Some change) =
    codes "  counts: " ++ (changed_counts change.limits change.before.counts change.after.counts ++ codes "\n")

abbrev pub why_line : Option Why → Text
why_line None = []
why_line (Some why) = codes "  " ++ (why_words why ++ codes "\n")

abbrev pub outcome_lines : Reason → Text
outcome_lines reason = change_line reason.change ++ why_line reason.why

abbrev pub reason_text : Reason → Text
reason_text reason =
    (event_line (printed_event naming.Clear reason.event) ++ given_line reason.given)
    ++ (flat_map condition_text reason.conditions ++ (no_condition_line reason.no_condition ++ outcome_lines reason))

-- ---- the lines of a run

abbrev pub waits_line : Phase → (waits : Option Progress) → Text
waits_line phase None = []
waits_line phase (Some progress) =
    codes "  " ++ (phase_name phase ++ (codes ": " ++ (waiting_text progress ++ codes "\n")))

-- a line that begins so, where there are words for it
abbrev pub line_if_there : (before : Text) → (words : Option Text) → Text
line_if_there before None = []
line_if_there before (Some words) = before ++ (words ++ codes "\n")

-- `closer`: the event that closed the run, if one did
abbrev pub metric_lines : (closer : Option EventNumber) → MetricFacts → Text
metric_lines closer metric =
    metric_line (printed_metric naming.Clear metric)
    ++ (waits_line metric.phase (waits_for metric.phase metric.limits metric.counts)
    ++ line_if_there (codes "  ") (option_map settled_text (settled_by closer metric.limits metric.counts)))

abbrev pub run_reasons_text : RunReasons → Text
run_reasons_text run =
    (run_line (shown_name run.name) run.phase
    ++ line_if_there (codes "  waits for: ") (run_waits_for run.phase run.metrics))
    ++ (flat_map reason_text run.reasons ++ flat_map (metric_lines run.closer) run.metrics)

abbrev pub reasons_text : List RunReasons → Text
reasons_text runs = flat_map run_reasons_text runs
