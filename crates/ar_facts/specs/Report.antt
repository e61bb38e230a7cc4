-- The text of a report: a line for each run, each of its metrics, and each of its events.
use Rattle.std.specs.Prelude.{ℕ, List, [], ◌++◌, codes, decimal, flat_map, if◌then◌else◌}
use Rattle.ar_value.specs.Terms.{Text}
use Rattle.ar_limits.specs.declared.counts.Counts.{Counts}
use Rattle.ar_limits.specs.declared.limits.Limits.{Limits}
use Rattle.ar_limits.specs.declared.phase.Phase.{Phase}
use Rattle.ar_quote.specs.Shown.{shown_name}
use Rattle.ar_facts.specs.declared.text.Naming.{Naming}
use Rattle.ar_facts.specs.declared.text.Naming.TheVariants as naming
use Rattle.ar_facts.specs.Facts.{EventFacts, FindingFacts, MetricFacts, RunFacts, judged, stopped}
use Rattle.ar_facts.specs.Names.{effect_text, phase_name, verdict_text}

-- ---- how names are printed

abbrev pub printed_name : Naming → (name : Text) → Text
printed_name naming.Verbatim name = name
printed_name naming.Clear name = shown_name name

abbrev pub printed_metric : Naming → MetricFacts → MetricFacts
printed_metric naming metric = record metric { name = printed_name naming metric.name }

abbrev pub printed_finding : Naming → FindingFacts → FindingFacts
printed_finding naming (judged metric verdict) = judged (printed_name naming metric) verdict
printed_finding naming stopped = stopped

abbrev pub printed_event : Naming → EventFacts → EventFacts
printed_event naming event = record event { finding = printed_finding naming event.finding }

-- ---- a metric's line

unfoldable pub figure_text : (name : Text) → ℕ → Text
figure_text name number = codes " " ++ (name ++ (codes "=" ++ decimal number))

abbrev pub errors_text : Counts → Text
errors_text counts =
    figure_text (codes "error") counts.error ++ figure_text (codes "consecutiveError") counts.succession

abbrev pub counts_text : Counts → Text
counts_text counts =
    figure_text (codes "successful") counts.successful
    ++ (figure_text (codes "failed") counts.failed
    ++ (figure_text (codes "inconclusive") counts.inconclusive ++ errors_text counts))

-- a dry metric is marked at the end
abbrev pub dry_text : Limits → Text
dry_text own = if own.dry then codes " dryRun" else []

abbrev pub metric_line : MetricFacts → Text
metric_line metric =
    codes "metric " ++ (metric.name
    ++ (codes " " ++ (phase_name metric.phase
    ++ (counts_text metric.counts ++ (dry_text metric.limits ++ codes "\n")))))

-- ---- an event's line

abbrev pub finding_text : FindingFacts → Text
finding_text (judged metric verdict) = metric ++ (codes " " ++ verdict_text verdict)
finding_text stopped = codes "stop"

abbrev pub event_line : EventFacts → Text
event_line event =
    (codes "event " ++ (decimal event.number ++ codes " "))
    ++ (finding_text event.finding ++ (codes " " ++ (effect_text event.effect ++ codes "\n")))

-- ---- a run's lines, and the report

abbrev pub run_line : (name : Text) → Phase → Text
run_line name phase = codes "run " ++ (name ++ (codes " " ++ (phase_name phase ++ codes "\n")))

abbrev pub run_text : RunFacts → Text
run_text run =
    run_line run.name run.phase ++ (flat_map metric_line run.metrics ++ flat_map event_line run.events)

abbrev pub report_text : List RunFacts → Text
report_text runs = flat_map run_text runs
