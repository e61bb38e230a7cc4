-- Laws of the definitions, each the contract of a function of `laws`.
use Rattle.std.specs.Prelude.{ℕ, ◌≡◌, ◌≢◌, ◌⊎◌, ◌<◌, ◌≤◌, true, false, Some, None, List, [], ◌∷◌, ◌++◌, length, map, take, slice_get, All, IfSome}
use Rattle.ar_limits.specs.declared.event.Event.{Event}
use Rattle.ar_limits.specs.declared.event.Event.TheVariants as event
use Rattle.ar_limits.specs.declared.event.Effect.TheVariants as effect
use Rattle.ar_limits.specs.declared.event.Mark.{Mark}
use Rattle.ar_limits.specs.declared.limits.Limits.{Limits}
use Rattle.ar_limits.specs.declared.phase.Phase.{Phase}
use Rattle.ar_limits.specs.declared.phase.Phase.TheVariants as phase
use Rattle.ar_limits.specs.Metric.{counts_of, counted, decision, phase_of_marks, is_complete, is_unsuccessful, HasPositiveCounts}
use Rattle.ar_limits.specs.Run.{marks_of, phases_by_marks, ends_with_stop, closed_by_metrics, closing, run_phase, metric_phases, metric_counts, is_late, effect_of, effects, timely}
use Rattle.ar_limits.specs.Replay.{IsOfMetricBelow}

-- ---- At most one phase

-- this prefix decides the phase, and no shorter one decides any
pub record CompletesWith (limits : Limits) (marks : List Mark) (phase : Phase) : Type 0 where
  pub shortest : ℕ
  pub within : shortest ≤ length marks
  pub decides : decision limits (take shortest marks) ≡ Some phase
  pub none_before : (k : ℕ) → k < shortest → decision limits (take k marks) ≡ None

-- whichever phase a metric's shortest deciding prefix decides, it is the metric's
abbrev pub OneMetricPhase : Type 0
OneMetricPhase = (limits : Limits) (marks : List Mark) (phase : Phase) → CompletesWith limits marks phase
    → phase_of_marks limits marks ≡ phase

-- one of the metrics that aren't dry is complete without success, with this phase
pub record HasUnsuccessful (limits : List Limits) (prefix : List Event) (phase : Phase) : Type 0 where
  pub number : ℕ
  pub own : Limits
  pub there : slice_get limits number ≡ Some own
  pub phase_is : phase_of_marks own (marks_of number prefix) ≡ phase
  pub unsuccessful : is_unsuccessful phase ≡ true
  pub decides : own.dry ≡ false

-- a metric in this phase leaves its run to succeed: it is complete, and Successful unless it is dry
abbrev pub LeavesToSucceed : Limits → Phase → Type 0
LeavesToSucceed own reached = (is_complete reached ≡ true) × (own.dry ≡ false → reached ≡ phase.Successful)

-- all of the metrics do
abbrev pub AllLeaveToSucceed : List Limits → List Event → Type 0
AllLeaveToSucceed limits prefix =
    (number : ℕ) (own : Limits) → slice_get limits number ≡ Some own
    → LeavesToSucceed own (phase_of_marks own (marks_of number prefix))

-- a reason to close with this phase, in no order: a stop at the end, a metric that isn't dry without success,
-- or all of the metrics complete and those that aren't dry with success
abbrev pub ClosesAs : List Limits → List Event → Phase → Type 0
ClosesAs limits prefix reached =
    ((ends_with_stop prefix ≡ true) × (reached ≡ phase.Successful))
    ⊎ (HasUnsuccessful limits prefix reached
    ⊎ ((prefix ≢ []) × AllLeaveToSucceed limits prefix × (reached ≡ phase.Successful)))

-- this prefix has a reason to close with the phase, and no shorter one has any reason
pub record ClosesWith (limits : List Limits) (events : List Event) (phase : Phase) : Type 0 where
  pub shortest : ℕ
  pub within : shortest ≤ length events
  pub closes : ClosesAs limits (take shortest events) phase
  pub none_before : (k : ℕ) (earlier : Phase) → k < shortest → ClosesAs limits (take k events) earlier → ⊥

-- whichever reason the shortest closing prefix has, its phase is the run's
abbrev pub OneRunPhase : Type 0
OneRunPhase = (limits : List Limits) (events : List Event) (phase : Phase) → HasPositiveCounts limits
    → ClosesWith limits events phase → run_phase limits events ≡ phase

-- a run is closed only for such a reason
abbrev pub ClosedForAReason : Type 0
ClosedForAReason = (limits : List Limits) (events : List Event) → HasPositiveCounts limits
    → is_complete (run_phase limits events) ≡ true → ClosesWith limits events (run_phase limits events)

-- ---- Dry metrics

-- where no metric is dry, a list that isn't empty and doesn't end with a stop closes by its metrics' phases as
-- they are
abbrev pub WithoutDryMetrics : Type 0
WithoutDryMetrics = (limits : List Limits) (events : List Event) → All (λ own. own.dry ≡ false) limits
    → events ≢ [] → ends_with_stop events ≡ false
    → closing limits events ≡ closed_by_metrics (phases_by_marks limits events)

-- the events are one, or marks of one dry metric
abbrev pub AreOneButDry : List Limits → Event → Event → Type 0
AreOneButDry limits (event.Mark number mark) (event.Mark number' mark') =
    (number ≡ number') × ((mark ≡ mark') ⊎ IfSome (slice_get limits number) (λ own. own.dry ≡ true))
AreOneButDry limits one other = one ≡ other

-- the same metrics are complete by their marks
abbrev pub AreAsComplete : List Limits → (events events' : List Event) → Type 0
AreAsComplete limits events events' =
    map is_complete (phases_by_marks limits events) ≡ map is_complete (phases_by_marks limits events')

-- two lists that differ in the marks of dry metrics alone, which are complete after as many events in both
pub record DifferInDryMarks (limits : List Limits) (events events' : List Event) : Type 0 where
  pub long : length events ≡ length events'
  pub each : (k : ℕ) (event event' : Event) → slice_get events k ≡ Some event → slice_get events' k ≡ Some event'
      → AreOneButDry limits event event'
  pub complete : (k : ℕ) → AreAsComplete limits (take k events) (take k events')

-- what a dry metric is judged as changes no run's phase, nor what any event does, where it is complete after as
-- many events
abbrev pub DryMarksDecideNothing : Type 0
DryMarksDecideNothing = (limits : List Limits) (events events' : List Event)
    → DifferInDryMarks limits events events'
    → (run_phase limits events ≡ run_phase limits events') × (effects limits events ≡ effects limits events')

-- a mark of a dry metric closes a run only as Successful, where it completes the last metric
abbrev pub DryMarksCloseWithSuccess : Type 0
DryMarksCloseWithSuccess =
    (limits : List Limits) (events : List Event) (number : ℕ) (own : Limits) (mark : Mark) (reached : Phase)
    → HasPositiveCounts limits → slice_get limits number ≡ Some own → own.dry ≡ true
    → effect_of limits events (event.Mark number mark) ≡ effect.Closed reached
    → (reached ≡ phase.Successful) × AllLeaveToSucceed limits (events ++ event.Mark number mark ∷ [])

-- a run whose metrics are all dry closes as Successful
abbrev pub AllDrySucceeds : Type 0
AllDrySucceeds = (limits : List Limits) (events : List Event) → HasPositiveCounts limits
    → All (λ own. own.dry ≡ true) limits → is_complete (run_phase limits events) ≡ true
    → run_phase limits events ≡ phase.Successful

-- ---- What is decided stays

-- a complete metric keeps its phase, whatever marks follow
abbrev pub MetricPhaseStays : Type 0
MetricPhaseStays = (limits : Limits) (marks more : List Mark)
    → is_complete (phase_of_marks limits marks) ≡ true
    → phase_of_marks limits (marks ++ more) ≡ phase_of_marks limits marks

-- nothing changes
pub record SameOutcome (limits : List Limits) (events events' : List Event) : Type 0 where
  pub phase : run_phase limits events' ≡ run_phase limits events
  pub metrics : metric_phases limits events' ≡ metric_phases limits events
  pub counts : metric_counts limits events' ≡ metric_counts limits events

-- a closed run and its metrics keep their phases and counts, whatever events follow
abbrev pub RunPhaseStays : Type 0
RunPhaseStays = (limits : List Limits) (events more : List Event)
    → is_complete (run_phase limits events) ≡ true → SameOutcome limits events (events ++ more)

-- ---- Late events

-- a late event changes no phase and no count
abbrev pub LateChangesNothing : Type 0
LateChangesNothing = (limits : List Limits) (events : List Event) (event : Event) → HasPositiveCounts limits
    → IsOfMetricBelow (length limits) event
    → is_late limits events event ≡ true → SameOutcome limits events (events ++ event ∷ [])

-- lists that are the same without their late events have the same phases and counts
abbrev pub OnlyTimelyMatters : Type 0
OnlyTimelyMatters = (limits : List Limits) (events events' : List Event) → HasPositiveCounts limits
    → All (IsOfMetricBelow (length limits)) events → All (IsOfMetricBelow (length limits)) events'
    → timely limits events ≡ timely limits events' → SameOutcome limits events events'

-- ---- Closing

-- once the run is closed, no metric is Pending or Running
abbrev pub ClosedMetricsAreComplete : Type 0
ClosedMetricsAreComplete = (limits : List Limits) (events : List Event)
    → is_complete (run_phase limits events) ≡ true
    → All (λ phase. is_complete phase ≡ true) (metric_phases limits events)

-- ---- The order of the tests

-- too many failures decide, whatever else holds
abbrev pub FailuresFirst : Type 0
FailuresFirst = (limits : Limits) (marks : List Mark) → limits.failure < (counts_of marks).failed
    → decision limits marks ≡ Some phase.Failed

-- without them, too many inconclusive marks decide
abbrev pub InconclusiveSecond : Type 0
InconclusiveSecond = (limits : Limits) (marks : List Mark) → (counts_of marks).failed ≤ limits.failure
    → limits.inconclusive < (counts_of marks).inconclusive → decision limits marks ≡ Some phase.Inconclusive

-- without either, too many errors at the end decide
abbrev pub ErrorsThird : Type 0
ErrorsThird = (limits : Limits) (marks : List Mark) → (counts_of marks).failed ≤ limits.failure
    → (counts_of marks).inconclusive ≤ limits.inconclusive
    → limits.consecutive_error < (counts_of marks).succession → decision limits marks ≡ Some phase.Error

-- within all three limits, the count decides
abbrev pub CountLast : Type 0
CountLast = (limits : Limits) (marks : List Mark) (count : ℕ) → (counts_of marks).failed ≤ limits.failure
    → (counts_of marks).inconclusive ≤ limits.inconclusive
    → (counts_of marks).succession ≤ limits.consecutive_error → limits.count ≡ Some count
    → count ≤ counted (counts_of marks) → decision limits marks ≡ Some phase.Successful

-- ---- The shape of the answers

-- there is one phase and one set of counts for each metric
abbrev pub OneForEachMetric : Type 0
OneForEachMetric = (limits : List Limits) (events : List Event)
    → (length (metric_phases limits events) ≡ length limits) × (length (metric_counts limits events) ≡ length limits)

-- the effects of a list are those of the list before, and that of the last event
abbrev pub EffectsInOrder : Type 0
EffectsInOrder = (limits : List Limits) (events : List Event) (event : Event)
    → effects limits (events ++ event ∷ []) ≡ effects limits events ++ effect_of limits events event ∷ []
