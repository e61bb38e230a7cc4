-- An event that closes its run by a limit is the first after which its count exceeds the limit.
use Rattle.std.proofs.Common.{◌≡◌, ℕ, nat_lt, Bool, true, false, cond, Option, Some, None, is_some, unwrap_or, List, [], ◌∷◌, ◌++◌, refl, ap, ◌∙◌, sym, subst, inl, inr}
use Rattle.std.specs.Prelude.{option_map, slice_get}
use Rattle.std.specs.Option.{option_map_or}
use Rattle.std.proofs.lemmas.Bool.{cases_eq, false≢true, or_parts}
use Rattle.ar_limits.proofs.OnePhaseLemmas.{closing_of_reason, metric_before, reason_of_closing}
use Rattle.ar_limits.proofs.PrefixLemmas.{is_complete-phase_by, none_of, option_cases, phase_by-push_open}
use Rattle.ar_limits.proofs.MetricLemmas.{decision-complete}
use Rattle.ar_limits.proofs.RunLemmas.{ends_with_stop-push, mark_of-other, mark_of-own, marks_of-push_mark, phases_by_marks-get, timely-push_applied}
use Rattle.ar_limits.proofs.StepLemmas.{is_late-closed, marks_of-timely, whole_open}
use Rattle.ar_limits.specs.Laws.{ClosesAs, HasUnsuccessful}
use Rattle.ar_limits.specs.Metric.{HasPositiveCounts, counted, counts_of, decision, is_complete, is_unsuccessful, phase_of_marks, reaches}
use Rattle.ar_limits.specs.Prefixes.{deciding_prefix}
use Rattle.ar_limits.specs.Run.{closing, closing_prefix, effect_of, is_late, marks_of, metric_counts, metric_was_complete, timely}
use Rattle.ar_limits.specs.declared.counts.Counts.{Counts}
use Rattle.ar_limits.specs.declared.event.Effect.TheVariants as effect
use Rattle.ar_limits.specs.declared.event.Event.{Event}
use Rattle.ar_limits.specs.declared.event.Event.TheVariants as event
use Rattle.ar_limits.specs.declared.event.Mark.{Mark}
use Rattle.ar_limits.specs.declared.limits.Limits.{Limits}
use Rattle.ar_limits.specs.declared.phase.Phase.{Phase}
use Rattle.ar_limits.specs.declared.phase.Phase.TheVariants as phase
use Rattle.ar_progress.proofs.Changes.{changes_are_of_fronts, of_mark}
use Rattle.ar_progress.proofs.Closes.{counts_there}
use Rattle.ar_progress.proofs.Entries.{entry_is}
use Rattle.ar_progress.proofs.Fronts.{events_in-append, incomplete_front, open_counts_there, open_front, undecided}
use Rattle.ar_progress.proofs.Reasons.{exceeded}
use Rattle.ar_progress.specs.Excess.{exceeds, limit_exceeded}
use Rattle.ar_progress.specs.Laws.{ClosersAreFirstOver, events_in}
use Rattle.ar_progress.specs.Steps.{step_after}
use Rattle.ar_progress.specs.declared.excess.LimitName.{LimitName}
use Rattle.ar_progress.specs.declared.excess.LimitName.TheVariants.{Failure, Inconclusive, ConsecutiveError}

-- ---- what a decision says of the limits

abbrev tested : LimitName → (failures inconclusive errors : Bool) → Bool
tested Failure failures inconclusive errors = failures
tested Inconclusive failures inconclusive errors = inconclusive
tested ConsecutiveError failures inconclusive errors = errors

tests_are : (name : LimitName) (own : Limits) (counts : Counts) → exceeds name own counts ≡ tested name (nat_lt own.failure counts.failed) (nat_lt own.inconclusive counts.inconclusive) (nat_lt own.consecutive_error counts.succession)
tests_are Failure own counts = refl
tests_are Inconclusive own counts = refl
tests_are ConsecutiveError own counts = refl

abbrev by_tests : (failures inconclusive errors reached : Bool) → Option Phase
by_tests failures inconclusive errors reached = cond failures (Some phase.Failed) (cond inconclusive (Some phase.Inconclusive) (cond errors (Some phase.Error) (cond reached (Some phase.Successful) None)))

none_tested : (name : LimitName) (failures inconclusive errors reached : Bool) → by_tests failures inconclusive errors reached ≡ None → tested name failures inconclusive errors ≡ false
none_tested name true inconclusive errors reached is = cc
none_tested name false true errors reached is = cc
none_tested name false false true reached is = cc
none_tested name false false false true is = cc
none_tested Failure false false false false is = refl
none_tested Inconclusive false false false false is = refl
none_tested ConsecutiveError false false false false is = refl

is_tested : (name : LimitName) (failures inconclusive errors reached : Bool) (q : Phase) → limit_exceeded q ≡ Some name → by_tests failures inconclusive errors reached ≡ Some q → tested name failures inconclusive errors ≡ true
is_tested name true inconclusive errors reached q named is =
    let phases : phase.Failed ≡ q = cc in
    let names : Some Failure ≡ Some name = ap limit_exceeded phases ∙ named in
    let same : Failure ≡ name = cc in
    subst (λ name. tested name true inconclusive errors ≡ true) same refl
is_tested name false true errors reached q named is =
    let phases : phase.Inconclusive ≡ q = cc in
    let names : Some Inconclusive ≡ Some name = ap limit_exceeded phases ∙ named in
    let same : Inconclusive ≡ name = cc in
    subst (λ name. tested name false true errors ≡ true) same refl
is_tested name false false true reached q named is =
    let phases : phase.Error ≡ q = cc in
    let names : Some ConsecutiveError ≡ Some name = ap limit_exceeded phases ∙ named in
    let same : ConsecutiveError ≡ name = cc in
    subst (λ name. tested name false false true ≡ true) same refl
is_tested name false false false true q named is =
    let phases : phase.Successful ≡ q = cc in
    let names : None ≡ Some name = ap limit_exceeded phases ∙ named in
    cc
is_tested name false false false false q named is = cc

pub within : (name : LimitName) (own : Limits) (marks : List Mark) → decision own marks ≡ None → exceeds name own (counts_of marks) ≡ false
unfolding decision
within name own marks none =
    let counts = counts_of marks in
    tests_are name own counts ∙ none_tested name (nat_lt own.failure counts.failed) (nat_lt own.inconclusive counts.inconclusive) (nat_lt own.consecutive_error counts.succession) (reaches own.count (counted counts)) none

pub over : (name : LimitName) (own : Limits) (marks : List Mark) (q : Phase) → limit_exceeded q ≡ Some name → decision own marks ≡ Some q → exceeds name own (counts_of marks) ≡ true
unfolding decision
over name own marks q named is =
    let counts = counts_of marks in
    tests_are name own counts ∙ is_tested name (nat_lt own.failure counts.failed) (nat_lt own.inconclusive counts.inconclusive) (nat_lt own.consecutive_error counts.succession) (reaches own.count (counted counts)) q named is

-- ---- an event that closes

-- an event that closes isn't late
pub record Closing (limits : List Limits) (events : List Event) (e : Event) (q : Phase) : Type 0 where
  pub applied : is_late limits events e ≡ false
  pub closed : closing limits (events ++ e ∷ []) ≡ Some q

pub closing_is : (limits : List Limits) (events : List Event) (e : Event) (q : Phase) → effect_of limits events e ≡ effect.Closed q → Closing limits events e q
unfolding effect_of
closing_is limits events e q is = by_parts (is_late limits events e) (closing limits (events ++ e ∷ [])) refl refl is where
  by_parts : (late : Bool) (found : Option Phase) → is_late limits events e ≡ late → closing limits (events ++ e ∷ []) ≡ found
      → cond late effect.Late (option_map_or effect.Closed found effect.Applied) ≡ effect.Closed q → Closing limits events e q
  by_parts true found late closes is = absurd cc
  by_parts false None late closes is = absurd cc
  by_parts false (Some p) late closes is = let same : p ≡ q = cc in record { applied = late; closed = closes ∙ ap (λ q. Some q) same }

pub open_where_applied : (limits : List Limits) (events : List Event) (e : Event) → is_late limits events e ≡ false → closing_prefix limits events ≡ None
open_where_applied limits events e applied =
    elim (option_cases (closing_prefix limits events)) [
      | inl none ↦ none
      | inr found ↦ absurd (false≢true (sym applied ∙ is_late-closed limits events found.0 e found.1))
    ]

was_incomplete : (limits : List Limits) (events : List Event) (metric : ℕ) (m : Mark) (own : Limits) → slice_get limits metric ≡ Some own → is_late limits events (event.Mark metric m) ≡ false → is_complete (phase_of_marks own (marks_of metric events)) ≡ false
unfolding is_late
was_incomplete limits events metric m own there applied =
    let parts = or_parts (is_some (closing_prefix limits events)) (metric_was_complete limits events (event.Mark metric m)) applied in
    rw (phases_by_marks-get limits events metric own there) at parts.1

unsuccessful : (q : Phase) (name : LimitName) → limit_exceeded q ≡ Some name → is_unsuccessful q ≡ true
unsuccessful phase.Failed name named = refl
unsuccessful phase.Inconclusive name named = refl
unsuccessful phase.Error name named = refl
unsuccessful phase.Pending name named = cc
unsuccessful phase.Running name named = cc
unsuccessful phase.Successful name named = cc

-- a metric that closes its run without success is that of the last mark
by_metric : (limits : List Limits) (events : List Event) (metric : ℕ) (m : Mark) (own : Limits) (q : Phase) → HasPositiveCounts limits → slice_get limits metric ≡ Some own → closing_prefix limits events ≡ None
    → HasUnsuccessful limits (events ++ event.Mark metric m ∷ []) q → phase_of_marks own (marks_of metric (events ++ event.Mark metric m ∷ [])) ≡ q
by_metric limits events metric m own q positive there none found =
    elim (cases_eq metric found.number) [
      | inl same ↦
          let one : found.own ≡ own = cc (found.there, there, same) in
          ap (λ (own : Limits). phase_of_marks own (marks_of metric (events ++ event.Mark metric m ∷ []))) (sym one)
          ∙ (ap (λ (number : ℕ). phase_of_marks found.own (marks_of number (events ++ event.Mark metric m ∷ []))) same ∙ found.phase_is)
      | inr apart ↦
          let before = metric_before limits events (event.Mark metric m) q found (mark_of-other metric found.number m (λ e. apart (sym e))) in
          absurd (false≢true (sym (ap is_some (whole_open limits events none)) ∙ closing_of_reason limits events q positive (inr (inl before))))
    ]

reached_phase : (limits : List Limits) (events : List Event) (metric : ℕ) (m : Mark) (own : Limits) (q : Phase) → HasPositiveCounts limits → slice_get limits metric ≡ Some own → closing_prefix limits events ≡ None → is_unsuccessful q ≡ true
    → ClosesAs limits (events ++ event.Mark metric m ∷ []) q → phase_of_marks own (marks_of metric (events ++ event.Mark metric m ∷ [])) ≡ q
reached_phase limits events metric m own q positive there none fails (inl stop) = absurd (false≢true (sym (ends_with_stop-push events (event.Mark metric m)) ∙ stop.0))
reached_phase limits events metric m own q positive there none fails (inr (inl found)) = by_metric limits events metric m own q positive there none found
reached_phase limits events metric m own q positive there none fails (inr (inr all)) = absurd (false≢true (ap is_unsuccessful (sym all.2) ∙ fails))

decided : (own : Limits) (marks : List Mark) (m : Mark) (q : Phase) → is_complete (phase_of_marks own marks) ≡ false → is_unsuccessful q ≡ true → phase_of_marks own (marks ++ m ∷ []) ≡ q → decision own (marks ++ m ∷ []) ≡ Some q
unfolding phase_of_marks
decided own marks m q incomplete fails is =
    let none = none_of (deciding_prefix (decision own) marks) (sym (is_complete-phase_by (decision own) marks (decision-complete own)) ∙ incomplete) in
    by_found (decision own (marks ++ m ∷ [])) (sym (phase_by-push_open (decision own) marks m none) ∙ is)
  where
    by_found : (found : Option Phase) → unwrap_or found phase.Running ≡ q → found ≡ Some q
    by_found None same = absurd (false≢true (ap is_unsuccessful same ∙ fails))
    by_found (Some p) same = ap (λ p. Some p) same

-- after the event the count exceeds the limit
over_after : (limits : List Limits) (events : List Event) (metric : ℕ) (m : Mark) (own : Limits) (q : Phase) (name : LimitName) → HasPositiveCounts limits → slice_get limits metric ≡ Some own → effect_of limits events (event.Mark metric m) ≡ effect.Closed q → limit_exceeded q ≡ Some name
    → option_map (exceeds name own) (slice_get (metric_counts limits (events ++ event.Mark metric m ∷ [])) metric) ≡ Some true
over_after limits events metric m own q name positive there does named =
    let closes = closing_is limits events (event.Mark metric m) q does in
    let none = open_where_applied limits events (event.Mark metric m) closes.applied in
    let incomplete = was_incomplete limits events metric m own there closes.applied in
    let fails = unsuccessful q name named in
    let one_more = λ (es : List Event). marks_of-push_mark metric es (event.Mark metric m) m (mark_of-own metric m) in
    let reached = reached_phase limits events metric m own q positive there none fails (reason_of_closing limits (events ++ event.Mark metric m ∷ []) q closes.closed) in
    let decides = decided own (marks_of metric events) m q incomplete fails (sym (ap (phase_of_marks own) (one_more events)) ∙ reached) in
    let marks : marks_of metric (timely limits (events ++ event.Mark metric m ∷ [])) ≡ marks_of metric events ++ m ∷ [] =
    ap (marks_of metric) (timely-push_applied limits events (event.Mark metric m) closes.applied)
    ∙ (one_more (timely limits events) ∙ ap (λ marks. marks ++ m ∷ []) (marks_of-timely limits metric own there events none incomplete)) in
    ap (option_map (exceeds name own)) (counts_there limits (events ++ event.Mark metric m ∷ []) metric own there ∙ ap (λ marks. Some (counts_of marks)) marks)
    ∙ ap (λ does. Some does) (over name own (marks_of metric events ++ m ∷ []) q named decides)

-- and before it
within_before : (limits : List Limits) (front back : List Event) (metric : ℕ) (m : Mark) (own : Limits) (name : LimitName) → slice_get limits metric ≡ Some own → is_late limits (front ++ back) (event.Mark metric m) ≡ false
    → option_map (exceeds name own) (slice_get (metric_counts limits front) metric) ≡ Some false
within_before limits front back metric m own name there applied =
    let none = open_front limits front back (open_where_applied limits (front ++ back) (event.Mark metric m) applied) in
    let incomplete = incomplete_front metric own front back (was_incomplete limits (front ++ back) metric m own there applied) in
    ap (option_map (exceeds name own)) (open_counts_there limits front metric own there none incomplete)
    ∙ ap (λ does. Some does) (within name own (marks_of metric front) (undecided own (marks_of metric front) incomplete))

-- ---- the law

pub closers_are_first_over : ClosersAreFirstOver
closers_are_first_over bundle run limits earlier entry later reached excess positive is why =
    let step = exceeded (step_after bundle limits earlier entry) reached excess why in
    let last = entry_is bundle run limits earlier entry later is in
    let of = of_mark bundle limits earlier entry step.change step.changes in
    let fronts = changes_are_of_fronts bundle limits earlier entry step.change step.changes in
    let events = events_in bundle earlier in
    let same : last.e ≡ of.e = cc (last.happens, of.happens) in
    let e : last.e ≡ event.Mark step.change.metric of.changes.m = same ∙ of.changes.marks in
    let does : effect_of limits events (event.Mark step.change.metric of.changes.m) ≡ effect.Closed reached = ap (effect_of limits events) (sym e) ∙ (sym last.effect ∙ step.effect) in
    let counts : slice_get (metric_counts limits (events ++ event.Mark step.change.metric of.changes.m ∷ [])) step.change.metric ≡ Some step.change.after.counts =
    ap (λ (e : Event). slice_get (metric_counts limits (events ++ e ∷ [])) step.change.metric) (sym e) ∙ (ap (λ events. slice_get (metric_counts limits events) step.change.metric) (sym last.events) ∙ fronts.counts_after) in
    let exceeding : Some (exceeds excess.limit step.change.limits step.change.after.counts) ≡ Some true =
    sym (ap (option_map (exceeds excess.limit step.change.limits)) counts) ∙ over_after limits events step.change.metric of.changes.m step.change.limits reached excess.limit positive fronts.limits_are does step.named in
    let closes = closing_is limits events (event.Mark step.change.metric of.changes.m) reached does in
    record {
      change = step.change;
      changes = step.changes;
      excess_is = step.excess_is;
      over = cc;
      within = λ front rest split.
          let cut : events ≡ events_in bundle front ++ events_in bundle rest = ap (events_in bundle) split ∙ events_in-append bundle front rest in
          within_before limits (events_in bundle front) (events_in bundle rest) step.change.metric of.changes.m step.change.limits excess.limit fronts.limits_are
          (subst (λ events. is_late limits events (event.Mark step.change.metric of.changes.m) ≡ false) cut closes.applied);
    }
