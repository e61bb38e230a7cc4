-- Laws of the definitions, each the contract of a function of `laws`. They are of a history of a run, cut into the
-- entries before an entry, this one, and later ones.
use Rattle.std.specs.Prelude.{ℕ, ◌≡◌, ◌≤◌, ◌+◌, true, false, List, [], ◌∷◌, ◌++◌, Option, Some, IfSome, is_some, option_map, length, slice_get}
use Rattle.std.specs.List.{list_any}
use Rattle.ar_limits.specs.Metric.{HasPositiveCounts, counted, decided_by, is_complete, is_unsuccessful, phase_of_marks}
use Rattle.ar_limits.specs.Laws.{AllLeaveToSucceed}
use Rattle.ar_limits.specs.Replay.{IsOfMetricBelow}
use Rattle.ar_limits.specs.Run.{closing_prefix, marks_of, metric_counts, metric_phases}
use Rattle.ar_limits.specs.declared.counts.Counts.{Counts}
use Rattle.ar_limits.specs.declared.event.Effect.TheVariants as effect
use Rattle.ar_limits.specs.declared.event.Event.{Event}
use Rattle.ar_limits.specs.declared.event.Event.TheVariants as event
use Rattle.ar_limits.specs.declared.limits.Limits.{Limits}
use Rattle.ar_limits.specs.declared.phase.Phase.{Phase}
use Rattle.ar_bundle.specs.Bundle.{Bundle, events_of, happened}
use Rattle.ar_bundle.specs.Event.{EventNumber}
use Rattle.ar_bundle.specs.Lawful.{IsHistory, numbers_of}
use Rattle.ar_bundle.specs.declared.bundle.RunPart.{RunPart}
use Rattle.ar_bundle.specs.declared.history.Entry.{Entry}
use Rattle.ar_facts.specs.Facts.{MetricFacts, run_facts}
use Rattle.ar_progress.specs.Excess.{exceeds, excess_at}
use Rattle.ar_progress.specs.Steps.{change_after, closes, is_entry_of, step_after}
use Rattle.ar_progress.specs.Why.{why_of}
use Rattle.ar_progress.specs.declared.excess.Excess.{Excess}
use Rattle.ar_progress.specs.declared.steps.Change.{Change}
use Rattle.ar_progress.specs.declared.why.Why.TheVariants.{AfterClose, AllComplete, Dry, Exceeded, MetricWas, Stopped}

-- what entries are to their run
abbrev pub events_in : Bundle → List Entry → List Event
events_in bundle entries = events_of bundle (numbers_of entries)

-- ---- What an event changes

-- the change has a metric's limits, and its phase and counts after the events before, and after these and the entry's
pub record IsChange (bundle : Bundle) (limits : List Limits) (earlier : List Entry) (entry : Entry) (change : Change)
    : Type 0 where
  pub of_metric : is_entry_of bundle change.metric entry ≡ true
  pub limits_are : slice_get limits change.metric ≡ Some change.limits
  pub phase_before : slice_get (metric_phases limits (events_in bundle earlier)) change.metric
      ≡ Some change.before.phase
  pub counts_before : slice_get (metric_counts limits (events_in bundle earlier)) change.metric
      ≡ Some change.before.counts
  pub phase_after : slice_get (metric_phases limits (events_in bundle (earlier ++ entry ∷ []))) change.metric
      ≡ Some change.after.phase
  pub counts_after : slice_get (metric_counts limits (events_in bundle (earlier ++ entry ∷ []))) change.metric
      ≡ Some change.after.counts

abbrev pub ChangesAreOfFronts : Type 0
ChangesAreOfFronts = (bundle : Bundle) (limits : List Limits) (earlier : List Entry) (entry : Entry) (change : Change)
    → change_after bundle limits earlier entry ≡ Some change → IsChange bundle limits earlier entry change

-- a metric's counts stay as they are until its next event
abbrev pub CountsStay : Type 0
CountsStay = (bundle : Bundle) (limits : List Limits) (earlier : List Entry) (entry : Entry) (others : List Entry)
    (change : Change) → change_after bundle limits earlier entry ≡ Some change
    → list_any (is_entry_of bundle change.metric) others ≡ false
    → slice_get (metric_counts limits (events_in bundle (earlier ++ entry ∷ others))) change.metric
    ≡ Some change.after.counts

-- so those after a metric's last event are the ones in the run's report
abbrev pub LastCountsAreReported : Type 0
LastCountsAreReported = (bundle : Bundle) (run : RunPart) (earlier : List Entry) (entry : Entry) (later : List Entry)
    (change : Change) (metric : MetricFacts) → change_after bundle run.limits earlier entry ≡ Some change
    → list_any (is_entry_of bundle change.metric) later ≡ false
    → slice_get (run_facts bundle run (numbers_of (earlier ++ entry ∷ later))).metrics change.metric ≡ Some metric
    → metric.counts ≡ change.after.counts

-- a metric has counted no more measurements than its run has events, so at most 100,000
abbrev pub CountsAreOfEvents : Type 0
CountsAreOfEvents = (limits : List Limits) (events : List Event) (metric : ℕ) (own : Limits) (counts : Counts)
    → slice_get limits metric ≡ Some own → slice_get (metric_counts limits events) metric ≡ Some counts
    → counted counts + counts.error ≤ length events

-- ---- What closes a run

-- an entry of this metric is the first of the history after which the count exceeds its limit
pub record IsFirstOver (bundle : Bundle) (limits : List Limits) (earlier : List Entry) (entry : Entry)
    (excess : Excess) : Type 0 where
  pub change : Change
  pub changes : change_after bundle limits earlier entry ≡ Some change
  pub excess_is : excess ≡ excess_at change.limits change.after.counts excess.limit
  pub over : exceeds excess.limit change.limits change.after.counts ≡ true
  -- after each front of the entries before
  pub within : (front rest : List Entry) → earlier ≡ front ++ rest
      → option_map (exceeds excess.limit change.limits)
      (slice_get (metric_counts limits (events_in bundle front)) change.metric) ≡ Some false

-- an event that closes its run by a limit is the first after which the named count exceeds it
abbrev pub ClosersAreFirstOver : Type 0
ClosersAreFirstOver = (bundle : Bundle) (run : ℕ) (limits : List Limits) (earlier : List Entry) (entry : Entry)
    (later : List Entry) (reached : Phase) (excess : Excess) → HasPositiveCounts limits
    → IsHistory bundle run limits (earlier ++ entry ∷ later)
    → why_of (step_after bundle limits earlier entry) ≡ Some (Exceeded reached excess)
    → IsFirstOver bundle limits earlier entry excess

-- an event that closes its run as a stop is one
abbrev pub ClosedByAStop : Type 0
ClosedByAStop = (bundle : Bundle) (limits : List Limits) (earlier : List Entry) (entry : Entry) (happening : Event)
    → happened bundle entry.number ≡ Some happening → IsOfMetricBelow (length limits) happening
    → why_of (step_after bundle limits earlier entry) ≡ Some Stopped → happening ≡ event.Stop

-- after one that closes it as the last metric completes, each metric is complete, and Successful unless it is dry
abbrev pub ClosedByTheLast : Type 0
ClosedByTheLast = (bundle : Bundle) (run : ℕ) (limits : List Limits) (earlier : List Entry) (entry : Entry)
    (later : List Entry) → IsHistory bundle run limits (earlier ++ entry ∷ later)
    → why_of (step_after bundle limits earlier entry) ≡ Some AllComplete
    → AllLeaveToSucceed limits (events_in bundle (earlier ++ entry ∷ []))

-- an entry after which a dry metric is complete without success, with this phase, and the run is open
pub record IsDryFailure (bundle : Bundle) (limits : List Limits) (earlier : List Entry) (entry : Entry)
    (reached : Phase) : Type 0 where
  pub change : Change
  pub changes : change_after bundle limits earlier entry ≡ Some change
  pub dry : change.limits.dry ≡ true
  pub reached_is : change.after.phase ≡ reached
  pub fails : is_unsuccessful reached ≡ true
  pub applied : entry.effect ≡ effect.Applied

abbrev pub NotClosedSinceDry : Type 0
NotClosedSinceDry = (bundle : Bundle) (limits : List Limits) (earlier : List Entry) (entry : Entry) (reached : Phase)
    → why_of (step_after bundle limits earlier entry) ≡ Some (Dry reached)
    → IsDryFailure bundle limits earlier entry reached

-- ---- What makes an event late

-- one of the entries before has this number and closes the run, and no other entry of the history does
pub record IsOnlyCloser (earlier later : List Entry) (number : EventNumber) : Type 0 where
  pub before : List Entry
  pub closer : Entry
  pub between : List Entry
  pub earlier_are : earlier ≡ before ++ closer ∷ between
  pub number_is : closer.number ≡ number
  pub does : closes closer.effect ≡ true
  pub no_other : list_any (λ (entry : Entry). closes entry.effect) (before ++ (between ++ later)) ≡ false

-- an event that is late by its run comes after the only one that closes it
abbrev pub LateAfterTheCloser : Type 0
LateAfterTheCloser = (bundle : Bundle) (run : ℕ) (limits : List Limits) (earlier : List Entry) (entry : Entry)
    (later : List Entry) (number : EventNumber) → IsHistory bundle run limits (earlier ++ entry ∷ later)
    → why_of (step_after bundle limits earlier entry) ≡ Some (AfterClose number)
    → IsOnlyCloser earlier (entry ∷ later) number

-- one of the entries before an entry of a metric is of the metric too, which it completes with this phase
pub record IsCompleted (bundle : Bundle) (limits : List Limits) (earlier : List Entry) (entry : Entry)
    (reached : Phase) (since : Option EventNumber) : Type 0 where
  pub metric : ℕ
  pub of_metric : is_entry_of bundle metric entry ≡ true
  pub before : List Entry
  pub completer : Entry
  pub between : List Entry
  pub earlier_are : earlier ≡ before ++ completer ∷ between
  pub since_is : since ≡ Some completer.number
  pub of_same : is_entry_of bundle metric completer ≡ true
  -- after the entries before it, and after it
  pub open_before : option_map is_complete (slice_get (metric_phases limits (events_in bundle before)) metric)
      ≡ Some false
  pub reached_after : slice_get (metric_phases limits (events_in bundle (before ++ completer ∷ []))) metric
      ≡ Some reached
  pub complete : is_complete reached ≡ true

-- an event that is late by its metric comes after the one that completed the metric: there always is one
abbrev pub LateAfterTheCompleter : Type 0
LateAfterTheCompleter = (bundle : Bundle) (run : ℕ) (limits : List Limits) (earlier : List Entry) (entry : Entry)
    (later : List Entry) (reached : Phase) (since : Option EventNumber) → HasPositiveCounts limits
    → IsHistory bundle run limits (earlier ++ entry ∷ later)
    → why_of (step_after bundle limits earlier entry) ≡ Some (MetricWas reached since)
    → IsCompleted bundle limits earlier entry reached since

-- a late event is late by its run or by its metric
abbrev pub LateForAReason : Type 0
LateForAReason = (bundle : Bundle) (run : ℕ) (limits : List Limits) (earlier : List Entry) (entry : Entry)
    (later : List Entry) → HasPositiveCounts limits → IsHistory bundle run limits (earlier ++ entry ∷ later)
    → entry.effect ≡ effect.Late → is_some (why_of (step_after bundle limits earlier entry)) ≡ true

-- ---- What a close settles

-- the counts of a metric of a closed run decide just where its marks had completed it when the run closed. So by them
-- `settled_by` finds the metrics that the close made Successful
abbrev pub SettledByTheClose : Type 0
SettledByTheClose = (limits : List Limits) (events prefix : List Event) (metric : ℕ) (own : Limits) (counts : Counts)
    → IfSome own.count (λ count. 1 ≤ count) → closing_prefix limits events ≡ Some prefix
    → slice_get limits metric ≡ Some own → slice_get (metric_counts limits events) metric ≡ Some counts
    → is_some (decided_by own counts) ≡ is_complete (phase_of_marks own (marks_of metric prefix))
