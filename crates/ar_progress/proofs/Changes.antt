-- What an event changes, by the fronts of a history.
use Rattle.std.proofs.Common.{◌≡◌, ◌≢◌, ℕ, zero, suc, ◌==◌, true, false, Option, Some, None, List, [], ◌∷◌, ◌++◌, refl, ap, ◌∙◌, sym, arith, append-nil, append_assoc, subst, inl, inr}
use Rattle.std.specs.Prelude.{option_and_then, option_map, slice_get}
use Rattle.std.specs.List.{list_any}
use Rattle.std.specs.Option.{option_map_or}
use Rattle.std.proofs.lemmas.Bool.{cases_Bool, or_parts}
use Rattle.std.proofs.lemmas.Bool.Decides.{nat_tests}
use Rattle.std.proofs.lemmas.List.Folds.{list_any-append}
use Rattle.ar_limits.proofs.PrefixLemmas.{option_cases, push_induction}
use Rattle.ar_limits.proofs.RunLemmas.{mark_of-other, marks_of-push_other, timely-push_applied, timely-push_late}
use Rattle.ar_limits.specs.Metric.{counts_of}
use Rattle.ar_limits.specs.Run.{is_late, mark_of, marks_of, metric_counts, metric_phases, timely}
use Rattle.ar_limits.specs.declared.counts.Counts.{Counts}
use Rattle.ar_limits.specs.declared.event.Event.{Event}
use Rattle.ar_limits.specs.declared.event.Event.TheVariants as event
use Rattle.ar_limits.specs.declared.event.Mark.{Mark}
use Rattle.ar_limits.specs.declared.limits.Limits.{Limits}
use Rattle.ar_limits.specs.declared.phase.Phase.{Phase}
use Rattle.ar_bundle.specs.Bundle.{Bundle, event_of, found_of, happened, happened_as}
use Rattle.ar_bundle.specs.declared.bundle.EventPart.{EventPart}
use Rattle.ar_bundle.specs.declared.bundle.MetricPart.{MetricPart}
use Rattle.ar_bundle.specs.declared.bundle.What.{What}
use Rattle.ar_bundle.specs.declared.bundle.What.TheVariants.{Measure, Stop}
use Rattle.ar_bundle.specs.declared.finding.Finding.{Finding}
use Rattle.ar_bundle.specs.declared.finding.Finding.TheVariants as finding
use Rattle.ar_bundle.specs.declared.history.Entry.{Entry}
use Rattle.ar_facts.specs.Facts.{MetricFacts, facts_of_metrics}
use Rattle.ar_progress.proofs.Closes.{counts_there}
use Rattle.ar_progress.proofs.Fronts.{events_in-append, events_in-none, events_in-push}
use Rattle.ar_progress.specs.Laws.{ChangesAreOfFronts, CountsStay, LastCountsAreReported, events_in}
use Rattle.ar_progress.specs.Steps.{change_after, change_with, is_entry_of, measures, metric_after, own_change}
use Rattle.ar_progress.specs.declared.steps.Change.{Change}
use Rattle.ar_progress.specs.declared.steps.MetricState.{MetricState}

-- ---- an entry that is a mark

what_marks : (what : What) (found : Finding) (metric : ℕ) (m : Mark) → event_of what found ≡ event.Mark metric m → measures metric what ≡ true
what_marks (Measure own sample) (finding.Judged verdict) metric m is = let same : own ≡ metric = cc in rw same (alike metric) where
  alike : (n : ℕ) → (n == n) ≡ true
  alike n = grind (arith, nat_tests)
what_marks (Measure own sample) finding.Stop metric m is = cc
what_marks Stop found metric m is = cc

part_marks : (bundle : Bundle) (part : EventPart) (found : Option Finding) (metric : ℕ) (m : Mark) → option_map (event_of part.what) found ≡ Some (event.Mark metric m) → measures metric part.what ≡ true
part_marks bundle part None metric m is = cc
part_marks bundle part (Some found) metric m is = let same : event_of part.what found ≡ event.Mark metric m = cc in what_marks part.what found metric m same

-- it is an entry of the metric
pub is_of : (bundle : Bundle) (entry : Entry) (metric : ℕ) (m : Mark) → happened bundle entry.number ≡ Some (event.Mark metric m) → is_entry_of bundle metric entry ≡ true
is_of bundle entry metric m is = by_part (slice_get bundle.entries entry.number) is where
  by_part : (part : Option EventPart) → option_and_then (happened_as bundle) part ≡ Some (event.Mark metric m) → option_map_or (λ (part : EventPart). measures metric part.what) part false ≡ true
  by_part None is = cc
  by_part (Some part) is = part_marks bundle part (found_of bundle part.run part.what) metric m is

-- an entry of another metric has no mark of this one
pub no_mark : (bundle : Bundle) (entry : Entry) (metric : ℕ) (e : Event) → is_entry_of bundle metric entry ≡ false → happened bundle entry.number ≡ Some e → mark_of metric e ≡ None
no_mark bundle entry metric event.Stop other is = refl
no_mark bundle entry metric (event.Mark own m) other is = mark_of-other own metric m apart where
  apart : metric ≢ own
  apart same =
      let of_own = is_of bundle entry own m is in
      let of_same : is_entry_of bundle metric entry ≡ true = ap (λ (metric : ℕ). is_entry_of bundle metric entry) same ∙ of_own in
      cc

-- ---- what it changes

record IsState (limits : List Limits) (events : List Event) (metric : ℕ) (state : MetricState) : Type 0 where
  phase : slice_get (metric_phases limits events) metric ≡ Some state.phase
  counts : slice_get (metric_counts limits events) metric ≡ Some state.counts

state_is : (limits : List Limits) (events : List Event) (metric : ℕ) (state : MetricState) → metric_after limits events metric ≡ Some state → IsState limits events metric state
state_is limits events metric state is = by_parts (slice_get (metric_phases limits events) metric) (slice_get (metric_counts limits events) metric) refl refl is where
  by_parts : (phase : Option Phase) (counts : Option Counts) → slice_get (metric_phases limits events) metric ≡ phase → slice_get (metric_counts limits events) metric ≡ counts
      → option_and_then (λ phase. option_map (λ counts. (let state : MetricState = record { phase = phase; counts = counts } in state)) counts) phase ≡ Some state → IsState limits events metric state
  by_parts None counts phase_is counts_are is = cc
  by_parts (Some phase) None phase_is counts_are is = cc
  by_parts (Some phase) (Some counts) phase_is counts_are is =
      let same : (let own : MetricState = record { phase = phase; counts = counts } in own) ≡ state = cc in
      record { phase = phase_is ∙ ap (λ (state : MetricState). Some state.phase) same; counts = counts_are ∙ ap (λ (state : MetricState). Some state.counts) same }

-- of a mark
pub record IsMarked (limits : List Limits) (events : List Event) (e : Event) (change : Change) : Type 0 where
  pub m : Mark
  pub marks : e ≡ event.Mark change.metric m
  pub own : slice_get limits change.metric ≡ Some change.limits
  pub before : metric_after limits events change.metric ≡ Some change.before
  pub after : metric_after limits (events ++ e ∷ []) change.metric ≡ Some change.after

pub marked : (limits : List Limits) (events : List Event) (e : Event) (change : Change) → own_change limits events e ≡ Some change → IsMarked limits events e change
marked limits events event.Stop change is = cc
marked limits events (event.Mark metric m) change is =
    by_parts (slice_get limits metric) (metric_after limits events metric) (metric_after limits (events ++ event.Mark metric m ∷ []) metric) refl refl refl is
  where
    by_parts : (own : Option Limits) (before after : Option MetricState) → slice_get limits metric ≡ own → metric_after limits events metric ≡ before → metric_after limits (events ++ event.Mark metric m ∷ []) metric ≡ after
        → option_and_then (λ own. change_with metric own before after) own ≡ Some change → IsMarked limits events (event.Mark metric m) change
    by_parts None before after there was now is = cc
    by_parts (Some own) None after there was now is = cc
    by_parts (Some own) (Some before) None there was now is = cc
    by_parts (Some own) (Some before) (Some after) there was now is =
        let same : (let made : Change = record { metric = metric; limits = own; before = before; after = after } in made) ≡ change = cc in
        subst (IsMarked limits events (event.Mark metric m)) same (record { m = m; marks = refl; own = there; before = was; after = now })

-- and of an entry that is one
pub record IsOfMark (bundle : Bundle) (limits : List Limits) (earlier : List Entry) (entry : Entry) (change : Change) : Type 0 where
  pub e : Event
  pub happens : happened bundle entry.number ≡ Some e
  pub changes : IsMarked limits (events_in bundle earlier) e change

pub of_mark : (bundle : Bundle) (limits : List Limits) (earlier : List Entry) (entry : Entry) (change : Change) → change_after bundle limits earlier entry ≡ Some change → IsOfMark bundle limits earlier entry change
of_mark bundle limits earlier entry change is = by_event (happened bundle entry.number) refl is where
  by_event : (e : Option Event) → happened bundle entry.number ≡ e → option_and_then (own_change limits (events_in bundle earlier)) e ≡ Some change → IsOfMark bundle limits earlier entry change
  by_event None happens is = cc
  by_event (Some e) happens is = record { e = e; happens = happens; changes = marked limits (events_in bundle earlier) e change is }

pub changes_are_of_fronts : ChangesAreOfFronts
changes_are_of_fronts bundle limits earlier entry change is =
    let of = of_mark bundle limits earlier entry change is in
    let before = state_is limits (events_in bundle earlier) change.metric change.before of.changes.before in
    let events : events_in bundle earlier ++ of.e ∷ [] ≡ events_in bundle (earlier ++ entry ∷ []) = sym (events_in-push bundle earlier entry of.e of.happens) in
    let after = state_is limits (events_in bundle (earlier ++ entry ∷ [])) change.metric change.after (subst (λ events. metric_after limits events change.metric ≡ Some change.after) events of.changes.after) in
    record {
      of_metric = is_of bundle entry change.metric of.changes.m (of.happens ∙ ap (λ e. Some e) of.changes.marks);
      limits_are = of.changes.own;
      phase_before = before.phase;
      counts_before = before.counts;
      phase_after = after.phase;
      counts_after = after.counts;
    }

-- ---- counts that stay

-- an event that is no mark of the metric
counts_kept : (limits : List Limits) (events : List Event) (metric : ℕ) (own : Limits) (e : Event) → slice_get limits metric ≡ Some own → mark_of metric e ≡ None
    → slice_get (metric_counts limits (events ++ e ∷ [])) metric ≡ slice_get (metric_counts limits events) metric
counts_kept limits events metric own e there other =
    counts_there limits (events ++ e ∷ []) metric own there
    ∙ (ap (λ marks. Some (counts_of marks)) same ∙ sym (counts_there limits events metric own there))
  where
    same : marks_of metric (timely limits (events ++ e ∷ [])) ≡ marks_of metric (timely limits events)
    same = elim (cases_Bool (is_late limits events e)) [
      | inl late ↦ ap (marks_of metric) (timely-push_late limits events e late)
      | inr applied ↦ ap (marks_of metric) (timely-push_applied limits events e applied) ∙ marks_of-push_other metric (timely limits events) e other
    ]

abbrev counts_at : Bundle → List Limits → (metric : ℕ) → List Entry → Option Counts
counts_at bundle limits metric entries = slice_get (metric_counts limits (events_in bundle entries)) metric

one_kept : (bundle : Bundle) (limits : List Limits) (metric : ℕ) (own : Limits) (entries : List Entry) (entry : Entry) → slice_get limits metric ≡ Some own → is_entry_of bundle metric entry ≡ false
    → counts_at bundle limits metric (entries ++ entry ∷ []) ≡ counts_at bundle limits metric entries
one_kept bundle limits metric own entries entry there other =
    elim (option_cases (happened bundle entry.number)) [
      | inl none ↦ ap (λ events. slice_get (metric_counts limits events) metric) (events_in-append bundle entries (entry ∷ []) ∙ (ap (λ last. events_in bundle entries ++ last) (events_in-none bundle entry none) ∙ append-nil (events_in bundle entries)))
      | inr found ↦
          ap (λ events. slice_get (metric_counts limits events) metric) (events_in-push bundle entries entry found.0 found.1)
          ∙ counts_kept limits (events_in bundle entries) metric own found.0 there (no_mark bundle entry metric found.0 other found.1)
    ]

all_kept : (bundle : Bundle) (limits : List Limits) (metric : ℕ) (own : Limits) (front : List Entry) → slice_get limits metric ≡ Some own → (others : List Entry) → list_any (is_entry_of bundle metric) others ≡ false
    → counts_at bundle limits metric (front ++ others) ≡ counts_at bundle limits metric front
all_kept bundle limits metric own front there = push_induction Claim empty more where
  Claim : List Entry → Type 0
  Claim others = list_any (is_entry_of bundle metric) others ≡ false → counts_at bundle limits metric (front ++ others) ≡ counts_at bundle limits metric front

  empty : Claim []
  empty none = ap (counts_at bundle limits metric) (append-nil front)

  more : (others : List Entry) (entry : Entry) → Claim others → Claim (others ++ entry ∷ [])
  more others entry so_far none =
      let parts = or_parts (list_any (is_entry_of bundle metric) others) (list_any (is_entry_of bundle metric) (entry ∷ [])) (sym (list_any-append (is_entry_of bundle metric) others (entry ∷ [])) ∙ none) in
      let last = or_parts (is_entry_of bundle metric entry) false parts.1 in
      ap (counts_at bundle limits metric) (sym (append_assoc front others (entry ∷ [])))
      ∙ (one_kept bundle limits metric own (front ++ others) entry there last.0 ∙ so_far parts.0)

pub counts_stay : CountsStay
counts_stay bundle limits earlier entry others change is none =
    let fronts = changes_are_of_fronts bundle limits earlier entry change is in
    ap (counts_at bundle limits change.metric) (sym (append_assoc earlier (entry ∷ []) others))
    ∙ (all_kept bundle limits change.metric change.limits (earlier ++ entry ∷ []) fronts.limits_are others none ∙ fronts.counts_after)

-- ---- in the report

counts_of_facts : (metrics : List MetricPart) (limits : List Limits) (phases : List Phase) (counts : List Counts) (number : ℕ) (metric : MetricFacts) → slice_get (facts_of_metrics metrics limits phases counts) number ≡ Some metric → slice_get counts number ≡ Some metric.counts
counts_of_facts [] limits phases counts number metric is = cc
counts_of_facts (part ∷ metrics) [] phases counts number metric is = cc
counts_of_facts (part ∷ metrics) (own ∷ limits) [] counts number metric is = cc
counts_of_facts (part ∷ metrics) (own ∷ limits) (phase ∷ phases) [] number metric is = cc
counts_of_facts (part ∷ metrics) (own ∷ limits) (phase ∷ phases) (first ∷ counts) zero metric is =
    let same : (let made : MetricFacts = record { name = part.name; limits = own; phase = phase; counts = first } in made) ≡ metric = cc in
    ap (λ (metric : MetricFacts). Some metric.counts) same
counts_of_facts (part ∷ metrics) (own ∷ limits) (phase ∷ phases) (first ∷ counts) (suc number) metric is = counts_of_facts metrics limits phases counts number metric is

pub last_counts_are_reported : LastCountsAreReported
last_counts_are_reported bundle run earlier entry later change metric is none there =
    let events = events_in bundle (earlier ++ entry ∷ later) in
    let reported = counts_of_facts bundle.metrics run.limits (metric_phases run.limits events) (metric_counts run.limits events) change.metric metric there in
    let stay = counts_stay bundle run.limits earlier entry later change is none in
    let same : Some metric.counts ≡ Some change.after.counts = sym reported ∙ stay in
    cc
