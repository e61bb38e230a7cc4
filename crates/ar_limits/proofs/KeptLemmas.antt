-- The code's steps on the metrics that it keeps are the steps of the run's state.
use Rattle.std.proofs.Common.{◌≡◌, ◌≢◌, ℕ, ◌+◌, ◌-◌, ◌<◌, ◌≤◌, Bool, true, false, cond, not, ◌&&◌, Some, None, List, [], ◌∷◌, map, length, refl, ap, ◌∙◌, sym, arith, get_or, inl, inr, ◌⊎◌}
use Rattle.std.proofs.Math.ListN.{set}
use Rattle.std.proofs.lemmas.List.{map-set, set-get_or, get_or-map, length-map, length-set, get_or-set_same, get_or-set_other}
use Rattle.std.proofs.lemmas.Option.{slice_get-get_or}
use Rattle.std.proofs.lemmas.Bool.{cases_eq, cases_Bool, false≢true}
use Rattle.ar_limits.specs.declared.counts.Counts.{Counts}
use Rattle.ar_limits.specs.declared.event.Event.{Event}
use Rattle.ar_limits.specs.declared.event.Event.TheVariants as event
use Rattle.ar_limits.specs.declared.event.Effect.TheVariants as effect
use Rattle.ar_limits.specs.declared.event.Mark.{Mark}
use Rattle.ar_limits.specs.declared.event.Mark.TheVariants as mark
use Rattle.ar_limits.specs.declared.limits.Limits.{Limits}
use Rattle.ar_limits.specs.declared.metric.Metric.{Metric}
use Rattle.ar_limits.specs.declared.phase.Phase.{Phase}
use Rattle.ar_limits.specs.declared.phase.Phase.TheVariants as phase
use Rattle.ar_limits.specs.Private.Bounds.{AreAtMost}
use Rattle.ar_limits.specs.Metric.{is_complete, is_unsuccessful, HasPositiveCounts}
use Rattle.ar_limits.specs.Run.{settled, closed_by_metrics, phase_for_run, phases_for_run}
use Rattle.ar_limits.specs.Replay.{Standing}
use Rattle.ar_limits.specs.Private.Step.{with_mark, no_counts, no_limits, comes_late, with_event, closed, next, answer}
use Rattle.ar_limits.specs.Private.MetricStep.{with_mark_added, after_closing}
use Rattle.ar_limits.specs.Private.Kept.{for_run, incomplete_count, standing_of, AreConsistent, AreWithin, Takes}
use Rattle.ar_limits.proofs.RunLemmas.{closed_by_metrics-complete}
use Rattle.ar_limits.proofs.PhaseLemmas.{list_any-set, weight, incomplete_count-cons, incomplete_count-set, incomplete_count-some, closed_by_metrics-unsuccessful, closed_by_metrics-last, closed_by_metrics-none}

-- ---- The three lists

abbrev limits_of : List Metric → List Limits
limits_of metrics = map (λ metric. metric.limits) metrics

abbrev phases_of : List Metric → List Phase
phases_of metrics = map (λ metric. metric.phase) metrics

abbrev counts_of : List Metric → List Counts
counts_of metrics = map (λ metric. metric.counts) metrics

map-after_closing : {A : Type 0} (f : Metric → A) (g : Metric → A) (metrics : List Metric)
    → ((metric : Metric) → f (after_closing metric) ≡ g metric)
    → map f (map after_closing metrics) ≡ map g metrics
map-after_closing f g [] same = refl
map-after_closing f g (metric ∷ rest) same = rw (same metric, map-after_closing f g rest same) refl

map-settled : (metrics : List Metric)
    → map settled (phases_of metrics) ≡ map (λ metric. settled metric.phase) metrics
map-settled [] = refl
map-settled (metric ∷ rest) = rw (map-settled rest) refl

phases_of-closed : (metrics : List Metric)
    → phases_of (map after_closing metrics) ≡ map settled (phases_of metrics)
phases_of-closed metrics = map-after_closing (λ metric. metric.phase) (λ metric. settled metric.phase) metrics (λ metric. refl) ∙ sym (map-settled metrics)

-- closing the metrics closes the run
pub closed-standing_of : (metrics : List Metric) (p q : Phase) (handed : ℕ)
    → standing_of (map after_closing metrics) q handed ≡ closed (standing_of metrics p handed) q
closed-standing_of metrics p q handed =
    rw (
      map-after_closing (λ metric. metric.limits) (λ metric. metric.limits) metrics (λ metric. refl),
      map-after_closing (λ metric. metric.counts) (λ metric. metric.counts) metrics (λ metric. refl),
      phases_of-closed metrics,
    ) refl

phases_for_run-of : (metrics : List Metric) → phases_for_run (limits_of metrics) (phases_of metrics) ≡ map for_run metrics
phases_for_run-of [] = refl
phases_for_run-of (metric ∷ rest) = rw (phases_for_run-of rest) refl

for_run_open : (own : Limits) (q : Phase) → is_complete q ≡ false → phase_for_run own q ≡ q
for_run_open own q incomplete = rw incomplete refl

-- one metric of the run, as it is read
pub record IsAt (metrics : List Metric) (i : ℕ) (metric : Metric) : Type 0 where
  pub within : i < length metrics
  pub read : metric ≡ get_or metrics i metric

read_at : {A : Type 0} (f : Metric → A) (metrics : List Metric) (i : ℕ) (metric : Metric) (d : A)
    → IsAt metrics i metric → get_or (map f metrics) i d ≡ f metric
read_at f metrics i metric d at = get_or-map f metrics i metric d at.within ∙ ap f (sym at.read)

-- a mark of one metric is its event
pub with_event-standing_of : (metrics : List Metric) (p : Phase) (i : ℕ) (metric : Metric) (m : Mark) (handed : ℕ)
    → IsAt metrics i metric
    → with_event (standing_of metrics p handed) (event.Mark i m) ≡ standing_of (set metrics i (with_mark_added metric m)) p handed
with_event-standing_of metrics p i metric m handed at =
    let own_limits = read_at (λ metric. metric.limits) metrics i metric no_limits at in
    let own_counts = read_at (λ metric. metric.counts) metrics i metric no_counts at in
    let more = with_mark_added metric m in
    let same_limits : set (limits_of metrics) i metric.limits ≡ limits_of metrics = ap (set (limits_of metrics) i) (sym own_limits) ∙ set-get_or (limits_of metrics) i no_limits in
    rw (own_limits, own_counts, map-set (λ metric. metric.limits) metrics i more, map-set (λ metric. metric.phase) metrics i more, map-set (λ metric. metric.counts) metrics i more, same_limits) refl

-- ---- Counts within their bound

at_most_more : (bound : ℕ) (counts : Counts) → AreAtMost bound counts → AreAtMost (bound + 1) counts
at_most_more bound counts h = record { successful = omega arith; failed = omega arith; inconclusive = omega arith; error = omega arith; succession = omega arith }

pub with_mark-at_most : (bound : ℕ) (counts : Counts) (m : Mark) → AreAtMost bound counts
    → AreAtMost (bound + 1) (with_mark counts m)
with_mark-at_most bound counts mark.Successful h = record { successful = omega arith; failed = omega arith; inconclusive = omega arith; error = omega arith; succession = omega arith }
with_mark-at_most bound counts mark.Failed h = record { successful = omega arith; failed = omega arith; inconclusive = omega arith; error = omega arith; succession = omega arith }
with_mark-at_most bound counts mark.Inconclusive h = record { successful = omega arith; failed = omega arith; inconclusive = omega arith; error = omega arith; succession = omega arith }
with_mark-at_most bound counts mark.Error h = record { successful = omega arith; failed = omega arith; inconclusive = omega arith; error = omega arith; succession = omega arith }

AreWithin-set : (bound : ℕ) (metrics : List Metric) (i : ℕ) (metric : Metric) (m : Mark)
    → IsAt metrics i metric → AreWithin bound metrics
    → AreWithin (bound + 1) (set metrics i (with_mark_added metric m))
AreWithin-set bound metrics i metric m at within = record { each = each } where
  each : (k : ℕ) (d : Metric) → k < length (set metrics i (with_mark_added metric m))
      → AreAtMost (bound + 1) (get_or (set metrics i (with_mark_added metric m)) k d).counts
  each k d below =
      let own : AreAtMost bound metric.counts = rw (← at.read) at (within.each i metric at.within) in
      let inside : k < length metrics = omega (arith, length-set metrics i (with_mark_added metric m)) in
      let there = at.within in
      elim (cases_eq k i) [
        | inl same ↦ rw (same, get_or-set_same) (with_mark-at_most bound metric.counts m own)
        | inr other ↦ rw (get_or-set_other metrics i k (with_mark_added metric m) d other) (at_most_more bound _ (within.each k d inside))
      ]

AreWithin-closed : (bound : ℕ) (metrics : List Metric) → AreWithin bound metrics
    → AreWithin bound (map after_closing metrics)
AreWithin-closed bound metrics within = record { each = each } where
  each : (k : ℕ) (d : Metric) → k < length (map after_closing metrics)
      → AreAtMost bound (get_or (map after_closing metrics) k d).counts
  each k d below =
      let inside : k < length metrics = omega (arith, length-map metrics after_closing) in
      rw (get_or-map after_closing metrics k d d inside) (within.each k d inside)

AreWithin-more : (bound : ℕ) (metrics : List Metric) → AreWithin bound metrics → AreWithin (bound + 1) metrics
AreWithin-more bound metrics within = record { each = λ k d below. at_most_more bound _ (within.each k d below) }

-- ---- Late events

comes_late-closed : (metrics : List Metric) (p : Phase) (handed : ℕ) (e : Event) → is_complete p ≡ true
    → comes_late (standing_of metrics p handed) e ≡ true
comes_late-closed metrics p handed event.Stop complete = complete
comes_late-closed metrics p handed (event.Mark i m) complete = rw complete refl

takes_nothing : (metrics : List Metric) (p : Phase) (incomplete : ℕ) (e : Event)
    → ((handed : ℕ) → comes_late (standing_of metrics p handed) e ≡ true) → AreConsistent metrics p incomplete
    → Takes metrics p incomplete e effect.Late metrics p incomplete
unfolding next answer
takes_nothing metrics p incomplete e late consistent = record {
  is_there = λ handed. rw (late handed) refl;
  answers = λ handed. rw (late handed) refl;
  consistent = consistent;
  grown = λ bound within. AreWithin-more bound metrics within;
}

pub takes_when_closed : (metrics : List Metric) (p : Phase) (incomplete : ℕ) (e : Event)
    → is_complete p ≡ true → AreConsistent metrics p incomplete
    → Takes metrics p incomplete e effect.Late metrics p incomplete
takes_when_closed metrics p incomplete e complete consistent = takes_nothing metrics p incomplete e (λ handed. comes_late-closed metrics p handed e complete) consistent

comes_late-mark : (metrics : List Metric) (p : Phase) (i : ℕ) (metric : Metric) (m : Mark) (handed : ℕ)
    → IsAt metrics i metric → is_complete p ≡ false
    → comes_late (standing_of metrics p handed) (event.Mark i m) ≡ is_complete metric.phase
comes_late-mark metrics p i metric m handed at running =
    let there : i < length (phases_of metrics) = omega (arith, length-map metrics (λ metric. metric.phase), at.within) in
    rw (running, slice_get-get_or (phases_of metrics) i metric.phase there, read_at (λ metric. metric.phase) metrics i metric metric.phase at) refl

-- a mark of a metric that is complete
pub takes_at_complete : (metrics : List Metric) (p : Phase) (incomplete i : ℕ) (metric : Metric) (m : Mark)
    → IsAt metrics i metric → is_complete p ≡ false → is_complete metric.phase ≡ true
    → AreConsistent metrics p incomplete
    → Takes metrics p incomplete (event.Mark i m) effect.Late (set metrics i metric) p incomplete
takes_at_complete metrics p incomplete i metric m at running complete consistent =
    let same : set metrics i metric ≡ metrics = ap (set metrics i) at.read ∙ set-get_or metrics i metric in
    rw same (takes_nothing metrics p incomplete (event.Mark i m) (λ handed. comes_late-mark metrics p i metric m handed at running ∙ complete) consistent)

-- ---- Events that aren't late

weight-for_run_closed : (metric : Metric) → weight (for_run (after_closing metric)) ≡ 0
weight-for_run_closed metric = at metric.limits.dry metric.phase where
  at : (dry : Bool) (q : Phase) → weight (cond (is_complete (settled q) && dry) phase.Successful (settled q)) ≡ 0
  at true phase.Pending = refl
  at true phase.Running = refl
  at true phase.Successful = refl
  at true phase.Failed = refl
  at true phase.Error = refl
  at true phase.Inconclusive = refl
  at false phase.Pending = refl
  at false phase.Running = refl
  at false phase.Successful = refl
  at false phase.Failed = refl
  at false phase.Error = refl
  at false phase.Inconclusive = refl

incomplete_count-closed : (metrics : List Metric) → incomplete_count (map for_run (map after_closing metrics)) ≡ 0
incomplete_count-closed [] = refl
incomplete_count-closed (metric ∷ rest) =
    omega (arith, incomplete_count-cons (for_run (after_closing metric)) (map for_run (map after_closing rest)), weight-for_run_closed metric, incomplete_count-closed rest)

-- a closed run is consistent
consistent_closed : (metrics : List Metric) (q : Phase) → is_complete q ≡ true
    → HasPositiveCounts (limits_of metrics) → AreConsistent (map after_closing metrics) q 0
consistent_closed metrics q complete positive = record {
  incomplete_is = sym (incomplete_count-closed metrics);
  none_unsuccessful = λ running. absurd (false≢true (sym running ∙ complete));
  positive = rw (map-after_closing (λ metric. metric.limits) (λ metric. metric.limits) metrics (λ metric. refl)) positive;
}

-- a stop of an open run
pub takes_stop : (metrics : List Metric) (p : Phase) (incomplete : ℕ) → is_complete p ≡ false
    → AreConsistent metrics p incomplete
    → Takes metrics p incomplete event.Stop (effect.Closed phase.Successful) (map after_closing metrics) phase.Successful 0
unfolding next answer
takes_stop metrics p incomplete running consistent = record {
  is_there = λ handed. rw running (closed-standing_of metrics p phase.Successful handed);
  answers = λ handed. rw running refl;
  consistent = consistent_closed metrics phase.Successful refl consistent.positive;
  grown = λ bound within. AreWithin-more bound (map after_closing metrics) (AreWithin-closed bound metrics within);
}

-- a mark of an open metric of an open run
pub record IsMarked (metrics : List Metric) (p : Phase) (incomplete i : ℕ) (metric : Metric) (m : Mark) (left : ℕ) : Type 0 where
  pub at : IsAt metrics i metric
  pub running : is_complete p ≡ false
  pub open_metric : is_complete metric.phase ≡ false
  pub consistent : AreConsistent metrics p incomplete
  pub left_is : left ≡ incomplete - cond (is_complete (for_run (with_mark_added metric m))) 1 0

limits_of-set : (metrics : List Metric) (i : ℕ) (metric : Metric) (m : Mark) → IsAt metrics i metric
    → limits_of (set metrics i (with_mark_added metric m)) ≡ limits_of metrics
limits_of-set metrics i metric m at =
    map-set (λ metric. metric.limits) metrics i (with_mark_added metric m) ∙ ap (set (limits_of metrics) i) (sym (read_at (λ metric. metric.limits) metrics i metric no_limits at)) ∙ set-get_or (limits_of metrics) i no_limits

pub some_incomplete : (metrics : List Metric) (p : Phase) (incomplete i : ℕ) (metric : Metric)
    → IsAt metrics i metric → is_complete metric.phase ≡ false → AreConsistent metrics p incomplete
    → 1 ≤ incomplete
some_incomplete metrics p incomplete i metric at open_metric consistent =
    let there : i < length (map for_run metrics) = omega (arith, length-map metrics for_run, at.within) in
    let own : is_complete (get_or (map for_run metrics) i metric.phase) ≡ false = rw (read_at for_run metrics i metric metric.phase at, for_run_open metric.limits metric.phase open_metric) open_metric in
    omega (arith, incomplete_count-some (map for_run metrics) i metric.phase there own, consistent.incomplete_is)

left_count : (metrics : List Metric) (p : Phase) (incomplete i : ℕ) (metric : Metric) (m : Mark) (left : ℕ)
    → IsMarked metrics p incomplete i metric m left
    → left ≡ incomplete_count (set (map for_run metrics) i (for_run (with_mark_added metric m)))
left_count metrics p incomplete i metric m left marked = at_phase (is_complete (for_run (with_mark_added metric m))) changed marked.left_is where
  there : i < length (map for_run metrics)
  there = omega (arith, length-map metrics for_run, marked.at.within)

  own : is_complete (get_or (map for_run metrics) i metric.phase) ≡ false
  own = rw (read_at for_run metrics i metric metric.phase marked.at, for_run_open metric.limits metric.phase marked.open_metric) marked.open_metric

  changed : incomplete_count (set (map for_run metrics) i (for_run (with_mark_added metric m))) + 1 ≡ incomplete_count (map for_run metrics) + cond (not (is_complete (for_run (with_mark_added metric m)))) 1 0
  changed = incomplete_count-set (map for_run metrics) i (for_run (with_mark_added metric m)) metric.phase there own

  at_phase : (b : Bool)
      → incomplete_count (set (map for_run metrics) i (for_run (with_mark_added metric m))) + 1 ≡ incomplete_count (map for_run metrics) + cond (not b) 1 0
      → left ≡ incomplete - cond b 1 0
      → left ≡ incomplete_count (set (map for_run metrics) i (for_run (with_mark_added metric m)))
  at_phase true more is = omega (arith, marked.consistent.incomplete_is)
  at_phase false more is = omega (arith, marked.consistent.incomplete_is)

-- the run continues
pub takes_mark_on : (metrics : List Metric) (p : Phase) (incomplete i : ℕ) (metric : Metric) (m : Mark) (left : ℕ)
    → IsMarked metrics p incomplete i metric m left
    → is_unsuccessful (for_run (with_mark_added metric m)) ≡ false → left ≢ 0
    → Takes metrics p incomplete (event.Mark i m) effect.Applied (set metrics i (with_mark_added metric m)) phase.Running left
unfolding next answer
takes_mark_on metrics p incomplete i metric m left marked fine some_left =
    let more = with_mark_added metric m in
    let there : i < length (map for_run metrics) = omega (arith, length-map metrics for_run, marked.at.within) in
    let none = marked.consistent.none_unsuccessful marked.running in
    let for_run_are = map-set for_run metrics i more in
    let left_is = left_count metrics p incomplete i metric m left marked in
    let still : incomplete_count (set (map for_run metrics) i (for_run more)) ≢ 0 = λ zero_left. some_left (left_is ∙ zero_left) in
    let now : closed_by_metrics (phases_for_run (limits_of (set metrics i more)) (phases_of (set metrics i more))) ≡ None = rw (phases_for_run-of (set metrics i more), for_run_are) (closed_by_metrics-none (map for_run metrics) i (for_run more) there none fine still) in
    let event_is = λ (handed : ℕ). with_event-standing_of metrics p i metric m handed marked.at in
    let comes = λ (handed : ℕ). comes_late-mark metrics p i metric m handed marked.at marked.running ∙ marked.open_metric in
    let closing_is = λ (handed : ℕ). ap (λ s. closed_by_metrics (phases_for_run s.limits s.phases)) (event_is handed) ∙ now in
    record {
      is_there = λ handed. rw (comes handed, closing_is handed) (ap (λ (s : Standing). record s { phase = phase.Running }) (sym (event_is handed)));
      answers = λ handed. rw (comes handed, closing_is handed) refl;
      consistent = record {
        incomplete_is = rw for_run_are left_is;
        none_unsuccessful = λ running. rw for_run_are (list_any-set is_unsuccessful (map for_run metrics) i (for_run more) there none ∙ fine);
        positive = rw (limits_of-set metrics i metric m marked.at) marked.consistent.positive;
      };
      grown = λ bound within. AreWithin-set bound metrics i metric m marked.at within;
    }

-- the run is closed
pub takes_mark_closed : (metrics : List Metric) (p : Phase) (incomplete i : ℕ) (metric : Metric) (m : Mark) (left : ℕ)
    → IsMarked metrics p incomplete i metric m left
    → (is_unsuccessful (for_run (with_mark_added metric m)) ≡ true) ⊎ (left ≡ 0)
    → Takes metrics p incomplete (event.Mark i m) (effect.Closed (for_run (with_mark_added metric m))) (map after_closing (set metrics i (with_mark_added metric m))) (for_run (with_mark_added metric m)) 0
unfolding next answer
takes_mark_closed metrics p incomplete i metric m left marked why =
    let more = with_mark_added metric m in
    let there : i < length (map for_run metrics) = omega (arith, length-map metrics for_run, marked.at.within) in
    let none = marked.consistent.none_unsuccessful marked.running in
    let left_is = left_count metrics p incomplete i metric m left marked in
    let at_phases : closed_by_metrics (set (map for_run metrics) i (for_run more)) ≡ Some (for_run more) =
    elim (cases_Bool (is_unsuccessful (for_run more))) [
      | inl unsuccessful ↦ closed_by_metrics-unsuccessful (map for_run metrics) i (for_run more) there none unsuccessful
      | inr fine ↦ elim why [
        | inl unsuccessful ↦ absurd (false≢true (sym fine ∙ unsuccessful))
        | inr last ↦ closed_by_metrics-last (map for_run metrics) i (for_run more) there none fine (sym left_is ∙ last)
      ]
    ] in
    let now : closed_by_metrics (phases_for_run (limits_of (set metrics i more)) (phases_of (set metrics i more))) ≡ Some (for_run more) = rw (phases_for_run-of (set metrics i more), map-set for_run metrics i more) at_phases in
    let event_is = λ (handed : ℕ). with_event-standing_of metrics p i metric m handed marked.at in
    let comes = λ (handed : ℕ). comes_late-mark metrics p i metric m handed marked.at marked.running ∙ marked.open_metric in
    let closing_is = λ (handed : ℕ). ap (λ s. closed_by_metrics (phases_for_run s.limits s.phases)) (event_is handed) ∙ now in
    record {
      is_there = λ handed. rw (comes handed, closing_is handed) (closed-standing_of (set metrics i more) p (for_run more) handed ∙ ap (λ (s : Standing). closed s (for_run more)) (sym (event_is handed)));
      answers = λ handed. rw (comes handed, closing_is handed) refl;
      consistent = consistent_closed (set metrics i more) (for_run more) (closed_by_metrics-complete (set (map for_run metrics) i (for_run more)) (for_run more) at_phases) (rw (limits_of-set metrics i metric m marked.at) marked.consistent.positive);
      grown = λ bound within. AreWithin-closed (bound + 1) (set metrics i more) (AreWithin-set bound metrics i metric m marked.at within);
    }
