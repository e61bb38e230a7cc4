-- The proofs of the laws.
use Rattle.std.proofs.Common.{◌≡◌, ℕ, ◌<◌, ◌≤◌, zero, suc, Bool, true, false, cond, Option, Some, None, is_some, List, [], ◌∷◌, ◌++◌, map, find, length, take, refl, ap, ◌∙◌, sym, arith, get_or, All, inl, inr, append-nil, append_assoc}
use Rattle.std.specs.Option.{option_map_or}
use Rattle.std.proofs.lemmas.List.{get_or_append_left, get_or_push, length-append, length-map, get_or-map}
use Rattle.std.proofs.lemmas.Bool.{cases_Bool, lt-ltb, le-ltb, le-leb}
use Rattle.ar_limits.specs.declared.event.Event.{Event}
use Rattle.ar_limits.specs.declared.event.Effect.TheVariants as effect
use Rattle.ar_limits.specs.declared.limits.Limits.{Limits}
use Rattle.ar_limits.specs.declared.phase.Phase.{Phase}
use Rattle.ar_limits.specs.declared.phase.Phase.TheVariants as phase
use Rattle.ar_limits.specs.Prefixes.{prefixes, deciding_prefix, with_earlier}
use Rattle.ar_limits.specs.Metric.{decision, phase_of_marks, is_complete, HasPositiveCounts}
use Rattle.ar_limits.specs.Run.{phases_by_marks, closing_prefix, run_phase, settled, metric_phases, metric_counts, is_late, effect_of, timely}
use Rattle.ar_limits.specs.Replay.{Standing, IsOfMetricBelow}
use Rattle.ar_limits.specs.Private.Step.{comes_late, with_event, closing_now, closed, next, answer}
use Rattle.ar_limits.specs.Laws.{OneMetricPhase, MetricPhaseStays, SameOutcome, RunPhaseStays, LateChangesNothing, OnlyTimelyMatters, ClosedMetricsAreComplete, FailuresFirst, InconclusiveSecond, ErrorsThird, CountLast, OneForEachMetric}
use Rattle.ar_limits.proofs.PrefixLemmas.{push_induction, value_of_some, phase_by-decided}
use Rattle.ar_limits.proofs.NumberedLemmas.{length-numbered}
use Rattle.ar_limits.proofs.RunLemmas.{is_complete-run_phase, metric_phases-closed, timely-push_late, timely-push_applied}
use Rattle.ar_limits.proofs.StepLemmas.{standing_after, phase_of_marks-push_complete, stays_closed, agrees}

-- ---- At most one phase

find-map_some : {A B : Type 0} (test : B → Bool) (g : A → B) (xs : List A) (y : A)
    → find (λ x. test (g x)) xs ≡ Some y → find test (map g xs) ≡ Some (g y)
find-map_some test g [] y h = cc
find-map_some {A} {B} test g (x ∷ xs) y h = at (test (g x)) h (find-map_some test g xs y) where
  at : (b : Bool) → cond b (Some x) (find (λ z. test (g z)) xs) ≡ Some y
      → (find (λ z. test (g z)) xs ≡ Some y → find test (map g xs) ≡ Some (g y))
      → cond b (Some (g x)) (find test (map g xs)) ≡ Some (g y)
  at true e rest = let same : x ≡ y = cc in rw same refl
  at false e rest = rest e

pub shortest_is : {A : Type 0} (test : List A → Bool) (xs : List A) (n : ℕ) → n ≤ length xs
    → test (take n xs) ≡ true → ((k : ℕ) → k < n → test (take k xs) ≡ false)
    → find test (prefixes xs) ≡ Some (take n xs)
unfolding prefixes
shortest_is test [] zero within passes before = rw passes refl
shortest_is test [] (suc n) within passes before = absurd (omega arith)
shortest_is test (x ∷ xs) zero within passes before = rw passes refl
shortest_is test (x ∷ xs) (suc n) within passes before =
    let later = shortest_is (λ p. test (x ∷ p)) xs n (omega arith) passes (λ k below. before (suc k) (omega arith)) in
    rw (before 0 (omega arith)) (find-map_some test (λ p. x ∷ p) (prefixes xs) (take n xs) later)

pub one_metric_phase : OneMetricPhase
unfolding phase_of_marks deciding_prefix
one_metric_phase limits marks q h =
    phase_by-decided (decision limits) marks (take h.shortest marks) q
    (shortest_is (λ p. is_some (decision limits p)) marks h.shortest h.within (ap is_some h.decides) (λ k below. ap is_some (h.none_before k below)))
    h.decides

-- ---- What is decided stays

pub metric_phase_stays : MetricPhaseStays
metric_phase_stays limits marks [] complete = ap (phase_of_marks limits) (append-nil marks)
metric_phase_stays limits marks (m ∷ more) complete =
    let one = phase_of_marks-push_complete limits marks m complete in
    let rest = metric_phase_stays limits (marks ++ m ∷ []) more (ap is_complete one ∙ complete) in
    ap (phase_of_marks limits) (sym (append_assoc marks (m ∷ []) more)) ∙ rest ∙ one

same_outcome : (limits : List Limits) (events events' : List Event)
    → standing_after limits events 0 ≡ standing_after limits events' 0 → SameOutcome limits events events'
same_outcome limits events events' same = record {
  phase = sym (ap (λ (s : Standing). s.phase) same);
  metrics = sym (ap (λ (s : Standing). s.phases) same);
  counts = sym (ap (λ (s : Standing). s.counts) same);
}

stays_complete : (limits : List Limits) (events more : List Event) → is_complete (run_phase limits events) ≡ true
    → standing_after limits events 0 ≡ standing_after limits (events ++ more) 0
stays_complete limits events [] complete = ap (λ es. standing_after limits es 0) (sym (append-nil events))
stays_complete limits events (e ∷ more) complete =
    let found = value_of_some (closing_prefix limits events) (sym (is_complete-run_phase limits events) ∙ complete) in
    let one = stays_closed limits events found.0 e 0 found.1 in
    let still : is_complete (run_phase limits (events ++ e ∷ [])) ≡ true = ap (λ (s : Standing). is_complete s.phase) (sym one) ∙ complete in
    one ∙ stays_complete limits (events ++ e ∷ []) more still ∙ ap (λ es. standing_after limits es 0) (append_assoc events (e ∷ []) more)

pub run_phase_stays : RunPhaseStays
run_phase_stays limits events more complete = same_outcome limits events (events ++ more) (stays_complete limits events more complete)

-- ---- Late events

-- a step that returns Late changes nothing
late_step : (s : Standing) (e : Event) → answer s e ≡ effect.Late → next s e ≡ s
unfolding next answer
late_step s e h = at (comes_late s e) (closing_now s e) h where
  at : (late : Bool) (closing : Option Phase)
      → cond late effect.Late (option_map_or effect.Closed closing effect.Applied) ≡ effect.Late
      → cond late s (option_map_or (closed (with_event s e)) closing (record (with_event s e) { phase = phase.Running })) ≡ s
  at true closing is = refl
  at false None is = cc
  at false (Some q) is = cc

effect_of-late : (limits : List Limits) (events : List Event) (e : Event) → is_late limits events e ≡ true
    → effect_of limits events e ≡ effect.Late
unfolding effect_of
effect_of-late limits events e late = rw late refl

late_is_there : (limits : List Limits) (events : List Event) (e : Event) → HasPositiveCounts limits
    → IsOfMetricBelow (length limits) e → is_late limits events e ≡ true
    → standing_after limits events 0 ≡ standing_after limits (events ++ e ∷ []) 0
late_is_there limits events e positive there late =
    let step = agrees limits events e 0 positive there in
    sym (late_step (standing_after limits events 0) e (step.answers ∙ effect_of-late limits events e late)) ∙ step.is_there

pub late_changes_nothing : LateChangesNothing
late_changes_nothing limits events e positive there late = same_outcome limits events (events ++ e ∷ []) (late_is_there limits events e positive there late)

front_all : {A : Type 0} (P : A → Type 0) (xs : List A) (x : A) → All P (xs ++ x ∷ []) → All P xs
front_all P xs x h k d below = rw get_or_append_left at (h k d (omega (arith, length-append xs (x ∷ []))))

last_all : {A : Type 0} (P : A → Type 0) (xs : List A) (x : A) → All P (xs ++ x ∷ []) → P x
last_all P xs x h = rw (get_or_push xs x x (length xs) refl) at (h (length xs) x (omega (arith, length-append xs (x ∷ []))))

timely-nil : (limits : List Limits) → timely limits [] ≡ []
unfolding timely with_earlier
timely-nil limits = refl

timely_is_there : (limits : List Limits) → HasPositiveCounts limits → (events : List Event)
    → All (IsOfMetricBelow (length limits)) events
    → standing_after limits (timely limits events) 0 ≡ standing_after limits events 0
timely_is_there limits positive = push_induction Claim empty more where
  Claim : List Event → Type 0
  Claim events = All (IsOfMetricBelow (length limits)) events → standing_after limits (timely limits events) 0 ≡ standing_after limits events 0

  empty : Claim []
  empty there = ap (λ es. standing_after limits es 0) (timely-nil limits)

  more : (events : List Event) (e : Event) → Claim events → Claim (events ++ e ∷ [])
  more events e ih there =
      let e_there = last_all (IsOfMetricBelow (length limits)) events e there in
      let before = ih (front_all (IsOfMetricBelow (length limits)) events e there) in
      elim (cases_Bool (is_late limits events e)) [
        | inl late ↦ rw (timely-push_late limits events e late) (before ∙ late_is_there limits events e positive e_there late)
        | inr applied ↦
            rw (timely-push_applied limits events e applied)
            (sym (agrees limits (timely limits events) e 0 positive e_there).is_there ∙ ap (λ s. next s e) before ∙ (agrees limits events e 0 positive e_there).is_there)
      ]

pub only_timely_matters : OnlyTimelyMatters
only_timely_matters limits events events' positive there there' same =
    same_outcome limits events events' (sym (timely_is_there limits positive events there) ∙ ap (λ es. standing_after limits es 0) same ∙ timely_is_there limits positive events' there')

-- ---- Closing

is_complete-settled : (q : Phase) → is_complete (settled q) ≡ true
is_complete-settled phase.Pending = refl
is_complete-settled phase.Running = refl
is_complete-settled phase.Successful = refl
is_complete-settled phase.Failed = refl
is_complete-settled phase.Error = refl
is_complete-settled phase.Inconclusive = refl

all_settled : (phases : List Phase) → All (λ q. is_complete q ≡ true) (map settled phases)
all_settled phases k d below = rw (get_or-map settled phases k d d (omega (arith, length-map phases settled))) (is_complete-settled (get_or phases k d))

pub closed_metrics_are_complete : ClosedMetricsAreComplete
closed_metrics_are_complete limits events complete =
    let found = value_of_some (closing_prefix limits events) (sym (is_complete-run_phase limits events) ∙ complete) in
    rw (metric_phases-closed limits events found.0 found.1) (all_settled (phases_by_marks limits found.0))

-- ---- The order of the tests

pub failures_first : FailuresFirst
unfolding decision
failures_first limits marks failed = rw (lt-ltb _ _ failed) refl

pub inconclusive_second : InconclusiveSecond
unfolding decision
inconclusive_second limits marks failed inconclusive = rw (le-ltb _ _ failed, lt-ltb _ _ inconclusive) refl

pub errors_third : ErrorsThird
unfolding decision
errors_third limits marks failed inconclusive errors = rw (le-ltb _ _ failed, le-ltb _ _ inconclusive, lt-ltb _ _ errors) refl

pub count_last : CountLast
unfolding decision
count_last limits marks count failed inconclusive errors is reached = rw (le-ltb _ _ failed, le-ltb _ _ inconclusive, le-ltb _ _ errors, is, le-leb _ _ reached) refl

-- ---- The shape of the answers

pub one_for_each_metric : OneForEachMetric
unfolding metric_phases phases_by_marks metric_counts
one_for_each_metric limits events = (phases (closing_prefix limits events), length-numbered _ 0 limits) where
  phases : (o : Option (List Event))
      → length (option_map_or (λ prefix. map settled (phases_by_marks limits prefix)) o (phases_by_marks limits events)) ≡ length limits
  phases None = length-numbered _ 0 limits
  phases (Some prefix) = length-map (phases_by_marks limits prefix) settled ∙ length-numbered _ 0 limits
