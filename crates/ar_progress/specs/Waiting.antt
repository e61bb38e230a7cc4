-- What a metric that isn't complete waits for, and what its run does.
use Rattle.std.specs.Prelude.{ℕ, if◌then◌else◌, List, [], ◌∷◌, ◌++◌, codes, decimal, Option, Some, None, ◌≡◌, refl, false}
use Rattle.std.specs.Fmt.{digits}
use Rattle.std.specs.Str.{chars}
use Rattle.ar_value.specs.Terms.{Text}
use Rattle.ar_limits.specs.declared.counts.Counts.{Counts}
use Rattle.ar_limits.specs.declared.limits.Limits.{Limits}
use Rattle.ar_limits.specs.declared.phase.Phase.{Phase}
use Rattle.ar_limits.specs.declared.phase.Phase.TheVariants as phases
use Rattle.ar_limits.specs.Metric.{counted, is_complete}
use Rattle.ar_quote.specs.Shown.{shown_name}
use Rattle.ar_facts.specs.Facts.{MetricFacts}
use Rattle.ar_progress.specs.declared.waiting.Progress.{Progress}

-- ---- a metric

-- the measurements that count, all but errors, of the `count` where there is one
abbrev pub progress_of : Limits → Counts → Progress
progress_of limits counts = record { measured = counted counts; count = limits.count }

-- nothing where the metric is complete
abbrev pub waits_for : Phase → Limits → Counts → Option Progress
waits_for phase limits counts = if is_complete phase then None else Some (progress_of limits counts)

abbrev pub measured_so_far : (count : Option ℕ) → (measured : ℕ) → Text
measured_so_far (Some count) measured = decimal measured ++ (codes " of count " ++ decimal count)
measured_so_far None measured = decimal measured ++ codes " measured, no count"

unfoldable pub progress_text : Progress → Text
progress_text progress = measured_so_far progress.count progress.measured

-- a metric without a count never completes as Successful by itself
abbrev pub end_text : (count : Option ℕ) → Text
end_text (Some count) = []
end_text None = codes ": until a limit is exceeded or the run is closed"

unfoldable pub waiting_text : Progress → Text
waiting_text progress = progress_text progress ++ end_text progress.count

-- ---- a run: its metrics that aren't complete, in their order

unfoldable pub waiting_metric : MetricFacts → Text
waiting_metric metric = shown_name metric.name ++ (codes " " ++ progress_text (progress_of metric.limits metric.counts))

-- what others are before one more
abbrev pub separated : Text → Text
separated [] = []
separated (first ∷ rest) = (first ∷ rest) ++ codes "; "

abbrev pub with_metric : (others : Text) → MetricFacts → Text
with_metric others metric =
    if is_complete metric.phase then others else separated others ++ waiting_metric metric

abbrev pub with_metrics : (others : Text) → List MetricFacts → Text
with_metrics others [] = others
with_metrics others (metric ∷ metrics) = with_metrics (with_metric others metric) metrics

abbrev pub if_any : Text → Option Text
if_any [] = None
if_any (first ∷ rest) = Some (first ∷ rest)

-- nothing where the run is closed
abbrev pub run_waits_for : Phase → List MetricFacts → Option Text
run_waits_for phase metrics = if is_complete phase then None else if_any (with_metrics [] metrics)

-- ---- Worked rows

-- of three measurements one may fail
abbrev three_wanted : Limits
three_wanted = record { failure = 1; inconclusive = 0; consecutive_error = 4; count = Some 3; dry = false }

-- two succeeded, and one met an error
abbrev two_and_an_error : Counts
two_and_an_error = record { successful = 2; failed = 0; inconclusive = 0; error = 1; succession = 1 }

errors_dont_count : waiting_text (progress_of three_wanted two_and_an_error) ≡ codes "2 of count 3"
unfolding waiting_text progress_text digits
errors_dont_count = refl

abbrev named : Text → Phase → Option ℕ → (successful : ℕ) → MetricFacts
named name phase count successful = record {
  name = name;
  limits = record { failure = 0; inconclusive = 0; consecutive_error = 4; count = count; dry = false };
  phase = phase;
  counts = record { successful = successful; failed = 0; inconclusive = 0; error = 0; succession = 0 };
}

-- the second of three metrics is complete
two_of_three : run_waits_for phases.Running (named (codes "errors") phases.Running (Some 3) 2
    ∷ named (codes "load") phases.Successful (Some 1) 1 ∷ named (codes "speed") phases.Pending None 0 ∷ [])
    ≡ Some (codes "errors 2 of count 3; speed 0 measured, no count")
unfolding waiting_metric progress_text shown_name chars digits
two_of_three = refl
