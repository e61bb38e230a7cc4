-- Why an event closed its run, or what had made it late.
use Rattle.std.specs.Prelude.{ℕ, ◌&&◌, Bool, true, false, if◌then◌else◌, ◌++◌, codes, decimal, Option, Some, None, ◌≡◌, refl}
use Rattle.std.specs.Fmt.{digits}
use Rattle.ar_value.specs.Terms.{Text}
use Rattle.ar_bundle.specs.Event.{EventNumber}
use Rattle.ar_bundle.specs.declared.finding.Finding.TheVariants as findings
use Rattle.ar_limits.specs.Metric.{is_unsuccessful}
use Rattle.ar_limits.specs.declared.event.Effect.{Effect}
use Rattle.ar_limits.specs.declared.event.Effect.TheVariants as effect
use Rattle.ar_limits.specs.declared.limits.Limits.{Limits}
use Rattle.ar_limits.specs.declared.phase.Phase.{Phase}
use Rattle.ar_limits.specs.declared.phase.Phase.TheVariants as phases
use Rattle.ar_facts.specs.Names.{phase_name}
use Rattle.ar_progress.specs.Excess.{excess_of, excess_text}
use Rattle.ar_progress.specs.declared.excess.Excess.{Excess}
use Rattle.ar_progress.specs.declared.excess.LimitName.TheVariants as limits
use Rattle.ar_progress.specs.declared.steps.Change.{Change}
use Rattle.ar_progress.specs.declared.steps.MetricState.{MetricState}
use Rattle.ar_progress.specs.declared.steps.Step.{Step}
use Rattle.ar_progress.specs.declared.why.Why.{Why}
use Rattle.ar_progress.specs.declared.why.Why.TheVariants.{Stopped, Exceeded, AllComplete, Dry, AfterClose, MetricWas}

-- by a count over its limit, or else by the last metric that completed
abbrev pub why_completed : Phase → Option Excess → Why
why_completed phase (Some excess) = Exceeded phase excess
why_completed phase None = AllComplete

-- by a stop, or by the event's metric
abbrev pub why_closed : Phase → Option Change → Why
why_closed phase None = Stopped
why_closed phase (Some change) = why_completed phase (excess_of phase change.limits change.after.counts)

-- the run was closed before, or else its metric was complete
abbrev pub why_late : (closer : Option EventNumber) → Option Change → (completer : Option EventNumber) → Option Why
why_late (Some number) change completer = Some (AfterClose number)
why_late None (Some change) completer = Some (MetricWas change.before.phase completer)
why_late None None completer = None

-- a dry metric completes without success, and closes nothing
abbrev pub why_applied : Option Change → Option Why
why_applied (Some change) =
    if change.limits.dry && is_unsuccessful change.after.phase then Some (Dry change.after.phase) else None
why_applied None = None

abbrev pub why_by : Effect → Step → Option Why
why_by effect.Applied step = why_applied step.change
why_by (effect.Closed phase) step = Some (why_closed phase step.change)
why_by effect.Late step = why_late step.closer step.change step.completer

abbrev pub why_of : Step → Option Why
why_of step = why_by step.entry.effect step

-- ---- in words

abbrev pub why_words : Why → Text
why_words Stopped = codes "closed: the run was stopped"
why_words (Exceeded phase excess) =
    (codes "closed: the metric is " ++ (phase_name phase ++ codes ": ")) ++ excess_text excess
why_words AllComplete = codes "closed: each metric is Successful, or dry and complete"
why_words (Dry phase) = codes "not closed: the metric is " ++ (phase_name phase ++ codes ", but dry")
why_words (AfterClose number) = codes "late: event " ++ (decimal number ++ codes " had closed the run")
why_words (MetricWas phase (Some number)) =
    (codes "late: the metric was " ++ (phase_name phase ++ codes " since event ")) ++ decimal number
why_words (MetricWas phase None) = codes "late: the metric was complete"

-- ---- Worked rows

-- a metric of which one measurement may fail, and four errors may come one after another
abbrev may_fail_once : (dry : Bool) → Limits
may_fail_once dry = record { failure = 1; inconclusive = 0; consecutive_error = 4; count = Some 9; dry = dry }

abbrev with_counts : Phase → (failed error succession : ℕ) → MetricState
with_counts phase failed error succession = record {
  phase = phase;
  counts = record { successful = 1; failed = failed; inconclusive = 0; error = error; succession = succession };
}

-- from one failure to two, or from four errors one after another to five, of eight in all
abbrev second_failure : (dry : Bool) → Change
second_failure dry = record {
  metric = 0;
  limits = may_fail_once dry;
  before = with_counts phases.Running 1 0 0;
  after = with_counts phases.Failed 2 0 0;
}

abbrev fifth_error : Change
fifth_error = record {
  metric = 0;
  limits = may_fail_once false;
  before = with_counts phases.Running 1 7 4;
  after = with_counts phases.Error 1 8 5;
}

-- a failure that comes late changes nothing
abbrev late_failure : Change
late_failure = record {
  metric = 0;
  limits = may_fail_once false;
  before = with_counts phases.Failed 2 0 0;
  after = with_counts phases.Failed 2 0 0;
}

abbrev step : Effect → Option Change → (closer completer : Option EventNumber) → Step
step effect change closer completer = record {
  entry = record { number = 30; finding = findings.Stop; effect = effect };
  change = change;
  closer = closer;
  completer = completer;
}

closed_by_failures : why_of (step (effect.Closed phases.Failed) (Some (second_failure false)) None None)
    ≡ Some (Exceeded phases.Failed (record { limit = limits.Failure; value = 1; count = 2 }))
closed_by_failures = refl

-- the errors of the succession alone
closed_by_errors : why_of (step (effect.Closed phases.Error) (Some fifth_error) None None)
    ≡ Some (Exceeded phases.Error (record { limit = limits.ConsecutiveError; value = 4; count = 5 }))
closed_by_errors = refl

-- a dry metric that is the last to complete
closed_by_the_last : why_of (step (effect.Closed phases.Successful) (Some (second_failure true)) None None)
    ≡ Some AllComplete
closed_by_the_last = refl

not_closed_since_dry : why_of (step effect.Applied (Some (second_failure true)) None None)
    ≡ Some (Dry phases.Failed)
not_closed_since_dry = refl

-- its metric was complete too
late_by_its_run : why_of (step effect.Late (Some late_failure) (Some 12) (Some 7)) ≡ Some (AfterClose 12)
late_by_its_run = refl

late_by_its_metric : why_of (step effect.Late (Some late_failure) None (Some 7))
    ≡ Some (MetricWas phases.Failed (Some 7))
late_by_its_metric = refl

second_stop : why_of (step effect.Late None (Some 12) None) ≡ Some (AfterClose 12)
second_stop = refl

over_the_limit : why_words (Exceeded phases.Failed (record { limit = limits.Failure; value = 1; count = 2 }))
    ≡ codes "closed: the metric is Failed: failed 2 > failureLimit 1"
unfolding excess_text digits
over_the_limit = refl

complete_since : why_words (MetricWas phases.Failed (Some 12)) ≡ codes "late: the metric was Failed since event 12"
unfolding digits
complete_since = refl
