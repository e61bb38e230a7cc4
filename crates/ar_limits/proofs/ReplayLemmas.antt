-- Which events lead to the states that the code makes.
use Rattle.std.proofs.Common.{◌≡◌, ℕ, ◌+◌, ◌<◌, ◌≤◌, Bool, true, false, cond, Option, Some, None, List, [], ◌∷◌, ◌++◌, map, length, refl, ap, ◌∙◌, sym, arith, get_or, IfSome}
use Rattle.std.specs.List.{list_any}
use Rattle.std.specs.Option.{option_map_or}
use Rattle.std.proofs.lemmas.List.{length-append, length-map, get_or-map, map-id}
use Rattle.std.proofs.lemmas.Option.{get_or_from_slice_get, slice_get_within}
use Rattle.ar_limits.specs.declared.counts.Counts.{Counts}
use Rattle.ar_limits.specs.declared.event.Event.{Event}
use Rattle.ar_limits.specs.declared.event.Event.TheVariants as event
use Rattle.ar_limits.specs.declared.event.Effect.{Effect}
use Rattle.ar_limits.specs.declared.limits.Limits.{Limits}
use Rattle.ar_limits.specs.declared.metric.Metric.{Metric}
use Rattle.ar_limits.specs.declared.phase.Phase.{Phase}
use Rattle.ar_limits.specs.declared.phase.Phase.TheVariants as phase
use Rattle.ar_limits.specs.Private.Bounds.{AreAtMost}
use Rattle.ar_limits.specs.Prefixes.{with_earlier}
use Rattle.ar_limits.specs.Metric.{counts_of, decision, phase_of_marks, is_unsuccessful, HasPositiveCounts}
use Rattle.ar_limits.specs.Run.{marks_of, phases_by_marks, closing, closing_prefix, effect_of, timely, metric_counts}
use Rattle.ar_limits.specs.Replay.{Standing, Replays, IsOfMetricBelow}
use Rattle.ar_limits.specs.Private.Step.{no_counts, comes_late, with_event, closing_now, closed, next, answer}
use Rattle.ar_limits.specs.Private.MetricStep.{opening}
use Rattle.ar_limits.specs.Private.Kept.{for_run, incomplete_count, standing_of, AreConsistent, AreWithin}
use Rattle.ar_limits.proofs.PrefixLemmas.{deciding_prefix-nil, phase_by-open}
use Rattle.ar_limits.proofs.MetricLemmas.{decision-nil}
use Rattle.ar_limits.proofs.NumberedLemmas.{numbered_plain}
use Rattle.ar_limits.proofs.PhaseLemmas.{incomplete_count-cons}
use Rattle.ar_limits.proofs.RunLemmas.{metric_phases-open, run_phase-open}
use Rattle.ar_limits.proofs.StepLemmas.{standing_after, agrees}

-- ---- One event more

same_replay : {limits limits' : List Limits} {phases phases' : List Phase} {counts counts' : List Counts} {p p' : Phase} {handed : ℕ}
    → limits ≡ limits' → phases ≡ phases' → counts ≡ counts' → p ≡ p'
    → (let s : Standing = record { limits = limits; phases = phases; counts = counts; phase = p; handed = handed } in s) ≡ record { limits = limits'; phases = phases'; counts = counts'; phase = p'; handed = handed }
same_replay l a b c = rw (l, a, b, c) refl

-- a state that the events lead to, with any number of events
replayed : (limits : List Limits) (events : List Event) (metrics : List Metric) (p : Phase) (handed : ℕ)
    → Replays limits events (standing_of metrics p handed) → (k : ℕ)
    → standing_of metrics p k ≡ standing_after limits events k
replayed limits events metrics p handed r k = same_replay r.limits_are r.phases_are r.counts_are r.phase_is

pub replays-push : (limits : List Limits) (events : List Event) (metrics : List Metric) (p : Phase) (handed : ℕ) (e : Event) (metrics' : List Metric) (p' : Phase)
    → Replays limits events (standing_of metrics p handed)
    → HasPositiveCounts (map (λ metric. metric.limits) metrics)
    → IsOfMetricBelow (length (map (λ metric. metric.limits) metrics)) e
    → ((k : ℕ) → standing_of metrics' p' k ≡ next (standing_of metrics p k) e)
    → Replays limits (events ++ e ∷ []) (standing_of metrics' p' (handed + 1))
replays-push limits events metrics p handed e metrics' p' r positive there is_there =
    let at = replayed limits events metrics p handed r (handed + 1) in
    let step = agrees limits events e (handed + 1) (rw r.limits_are at positive) (rw r.limits_are at there) in
    let after = is_there (handed + 1) ∙ ap (λ s. next s e) at ∙ step.is_there in
    record {
      limits_are = ap (λ s. s.limits) after;
      phases_are = ap (λ s. s.phases) after;
      counts_are = ap (λ s. s.counts) after;
      phase_is = ap (λ s. s.phase) after;
      handed_is = omega (arith, r.handed_is, length-append events (e ∷ []));
    }

pub effect_of-replayed : (limits : List Limits) (events : List Event) (metrics : List Metric) (p : Phase) (handed : ℕ) (e : Event) (f : Effect)
    → Replays limits events (standing_of metrics p handed)
    → HasPositiveCounts (map (λ metric. metric.limits) metrics)
    → IsOfMetricBelow (length (map (λ metric. metric.limits) metrics)) e
    → f ≡ answer (standing_of metrics p handed) e → f ≡ effect_of limits events e
effect_of-replayed limits events metrics p handed e f r positive there is =
    is ∙ ap (λ s. answer s e) (replayed limits events metrics p handed r handed) ∙ (agrees limits events e handed (rw r.limits_are at positive) (rw r.limits_are at there)).answers

with_event-limits : (s : Standing) (e : Event) → (with_event s e).limits ≡ s.limits
with_event-limits s event.Stop = refl
with_event-limits s (event.Mark i m) = refl

limits_kept : (s t : Standing) (late : Bool) (closing : Option Phase) → t.limits ≡ s.limits
    → (cond late s (option_map_or (closed t) closing (record t { phase = phase.Running }))).limits ≡ s.limits
limits_kept s t true closing same = refl
limits_kept s t false None same = same
limits_kept s t false (Some q) same = same

pub next-limits : (s : Standing) (e : Event) → (next s e).limits ≡ s.limits
unfolding next
next-limits s e = limits_kept s (with_event s e) (comes_late s e) (closing_now s e) (with_event-limits s e)

-- ---- No events

map-opening : {A : Type 0} (f : Metric → A) (g : Limits → A) (limits : List Limits)
    → ((l : Limits) → f (opening l) ≡ g l) → map f (map opening limits) ≡ map g limits
map-opening f g [] same = refl
map-opening f g (l ∷ rest) same = rw (same l, map-opening f g rest same) refl

phase_of_marks-nil : (l : Limits) → IfSome l.count (λ count. 1 ≤ count) → phase_of_marks l [] ≡ phase.Pending
unfolding phase_of_marks
phase_of_marks-nil l positive = phase_by-open (decision l) [] (deciding_prefix-nil (decision l) (decision-nil l positive))

not_closed : (limits : List Limits) → closing_prefix limits [] ≡ None
unfolding closing_prefix closing
not_closed limits = deciding_prefix-nil (closing limits) refl

phases_by_marks-nil : (limits : List Limits) → HasPositiveCounts limits
    → phases_by_marks limits [] ≡ map (λ l. phase.Pending) limits
unfolding phases_by_marks marks_of
phases_by_marks-nil limits positive = numbered_plain _ (λ l. phase.Pending) limits (λ i l at. phase_of_marks-nil l (rw (get_or_from_slice_get limits i l l at) at (positive i l (slice_get_within limits i l at))))

metric_counts-nil : (limits : List Limits) → metric_counts limits [] ≡ map (λ l. no_counts) limits
unfolding metric_counts timely with_earlier marks_of counts_of
metric_counts-nil limits = numbered_plain _ (λ l. no_counts) limits (λ i l at. refl)

pub replays-nil : (limits : List Limits) → HasPositiveCounts limits
    → Replays limits [] (standing_of (map opening limits) phase.Pending 0)
replays-nil limits positive = record {
  limits_are = map-opening (λ metric. metric.limits) (λ l. l) limits (λ l. refl) ∙ map-id limits;
  phases_are = map-opening (λ metric. metric.phase) (λ l. phase.Pending) limits (λ l. refl) ∙ sym (metric_phases-open limits [] (not_closed limits) ∙ phases_by_marks-nil limits positive);
  counts_are = map-opening (λ metric. metric.counts) (λ l. no_counts) limits (λ l. refl) ∙ sym (metric_counts-nil limits);
  phase_is = sym (run_phase-open limits [] (not_closed limits));
  handed_is = refl;
}

all_incomplete : (limits : List Limits) → length limits ≡ incomplete_count (map (λ l. phase.Pending) limits)
all_incomplete [] = refl
all_incomplete (l ∷ rest) = omega (arith, all_incomplete rest, incomplete_count-cons phase.Pending (map (λ l. phase.Pending) rest))

none_unsuccessful_yet : (limits : List Limits)
    → list_any is_unsuccessful (map (λ l. phase.Pending) limits) ≡ false
none_unsuccessful_yet [] = refl
none_unsuccessful_yet (l ∷ rest) = none_unsuccessful_yet rest

pub consistent-nil : (limits : List Limits) → HasPositiveCounts limits
    → AreConsistent (map opening limits) phase.Pending (length limits)
consistent-nil limits positive =
    let phases = map-opening for_run (λ l. phase.Pending) limits (λ l. refl) in
    record {
      incomplete_is = rw phases (all_incomplete limits);
      none_unsuccessful = λ running. rw phases (none_unsuccessful_yet limits);
      positive = rw (map-opening (λ metric. metric.limits) (λ l. l) limits (λ l. refl) ∙ map-id limits) positive;
    }

pub within-nil : (limits : List Limits) → AreWithin 0 (map opening limits)
within-nil limits = record { each = each } where
  each : (k : ℕ) (d : Metric) → k < length (map opening limits)
      → AreAtMost 0 (get_or (map opening limits) k d).counts
  each k d below =
      let inside : k < length limits = omega (arith, length-map limits opening) in
      rw (get_or-map opening limits k d.limits d inside) (record { successful = omega arith; failed = omega arith; inconclusive = omega arith; error = omega arith; succession = omega arith })
