-- A late event of an open run comes after the entry that completed its metric.
use Rattle.std.proofs.Common.{◌≡◌, ◌<◌, ◌≤◌, ℕ, ◌==◌, ◌&&◌, Bool, true, false, Option, Some, None, is_some, List, [], ◌∷◌, ◌++◌, length, IfSome, refl, ap, ◌∙◌, sym, arith, append_assoc, subst, inl, inr}
use Rattle.std.specs.Prelude.{if◌then◌else◌, option_and_then, option_map, slice_get}
use Rattle.std.specs.Option.{option_map_or, option_or}
use Rattle.std.proofs.lemmas.Bool.{cases_Bool, cases_eq, false≢true}
use Rattle.std.proofs.lemmas.Bool.Decides.{nat_tests}
use Rattle.std.proofs.lemmas.Option.{get_or_from_slice_get, slice_get_cases, slice_get_past, slice_get_within}
use Rattle.ar_limits.proofs.LawLemmas.{late_changes_nothing, one_for_each_metric}
use Rattle.ar_limits.proofs.NumberedLemmas.{length-numbered}
use Rattle.ar_limits.proofs.PrefixLemmas.{deciding_prefix-nil, none_of, option_cases, push_induction}
use Rattle.ar_limits.proofs.RunLemmas.{closing_prefix-push, is_complete-run_phase, marks_of-push_other, phases_by_marks-get}
use Rattle.ar_limits.proofs.StepLemmas.{is_complete-phase_of_marks-nil, no_marks}
use Rattle.ar_limits.specs.Metric.{HasPositiveCounts, counts_of, is_complete, phase_of_marks}
use Rattle.ar_limits.specs.Prefixes.{with_earlier}
use Rattle.ar_limits.specs.Replay.{IsOfMetricBelow}
use Rattle.ar_limits.specs.Run.{closing, closing_prefix, effect_of, is_late, mark_of, marks_of, metric_counts, metric_phases, metric_was_complete, phases_by_marks, timely}
use Rattle.ar_limits.specs.declared.counts.Counts.{Counts}
use Rattle.ar_limits.specs.declared.event.Effect.{Effect}
use Rattle.ar_limits.specs.declared.event.Effect.TheVariants as effect
use Rattle.ar_limits.specs.declared.event.Event.{Event}
use Rattle.ar_limits.specs.declared.event.Event.TheVariants as event
use Rattle.ar_limits.specs.declared.event.Mark.{Mark}
use Rattle.ar_limits.specs.declared.limits.Limits.{Limits}
use Rattle.ar_limits.specs.declared.phase.Phase.{Phase}
use Rattle.ar_bundle.specs.Bundle.{Bundle, happened}
use Rattle.ar_bundle.specs.Lawful.{IsHistory}
use Rattle.ar_bundle.specs.declared.history.Entry.{Entry}
use Rattle.ar_progress.proofs.Changes.{changes_are_of_fronts, marked, no_mark, of_mark}
use Rattle.ar_progress.proofs.Closes.{counts_there}
use Rattle.ar_progress.proofs.Completers.{completed, unchanged}
use Rattle.ar_progress.proofs.Entries.{entry_is, last_is}
use Rattle.ar_progress.proofs.Fronts.{events_in-append, open_front, phase_stays, phase_there}
use Rattle.ar_progress.proofs.Histories.{closer_push}
use Rattle.ar_progress.proofs.Lateness.{late_where}
use Rattle.ar_progress.proofs.Reasons.{metric_was}
use Rattle.ar_progress.specs.Laws.{LateAfterTheCompleter, LateForAReason, events_in}
use Rattle.ar_progress.specs.Private.Completers.{closer_or}
use Rattle.ar_progress.specs.Steps.{change_after, change_with, closer_of, closes, completer_of, is_entry_of, leaves_complete, metric_after, own_change, own_completer, step_after}
use Rattle.ar_progress.specs.Why.{why_by, why_late}
use Rattle.ar_progress.specs.declared.steps.Change.{Change}
use Rattle.ar_progress.specs.declared.steps.MetricState.{MetricState}

-- ---- a late event of an open run

was_complete : (limits : List Limits) (events : List Event) (e : Event) → closing_prefix limits events ≡ None → is_late limits events e ≡ true → metric_was_complete limits events e ≡ true
unfolding is_late
was_complete limits events e none late = rw none at late

-- its metric is complete
pub record IsLateMark (limits : List Limits) (events : List Event) (e : Event) : Type 0 where
  pub metric : ℕ
  pub m : Mark
  pub own : Limits
  pub marks : e ≡ event.Mark metric m
  pub there : slice_get limits metric ≡ Some own
  pub complete : is_complete (phase_of_marks own (marks_of metric events)) ≡ true

no_phase : (limits : List Limits) (events : List Event) (metric : ℕ) → length limits ≤ metric → slice_get (phases_by_marks limits events) metric ≡ None
unfolding phases_by_marks
no_phase limits events metric past =
    let long = length-numbered (λ (x : ℕ × Limits). phase_of_marks x.1 (marks_of x.0 events)) 0 limits in
    slice_get_past _ metric (subst (λ long. long ≤ metric) (sym long) past)

late_mark : (limits : List Limits) (events : List Event) (e : Event) → closing_prefix limits events ≡ None → is_late limits events e ≡ true → IsLateMark limits events e
late_mark limits events event.Stop none late = absurd (false≢true (was_complete limits events event.Stop none late))
late_mark limits events (event.Mark metric m) none late =
    let complete = was_complete limits events (event.Mark metric m) none late in
    elim (slice_get_cases limits metric).1 [
      | inl found ↦
          let there = found.2 in
          record {
            metric = metric;
            m = m;
            own = found.0;
            marks = refl;
            there = there;
            complete = sym (ap (λ phase. option_map_or is_complete phase false) (phases_by_marks-get limits events metric found.0 there)) ∙ complete;
          }
      | inr past ↦ absurd (false≢true (sym (ap (λ phase. option_map_or is_complete phase false) (no_phase limits events metric past.0)) ∙ complete))
    ]

-- and the run stays open
open_after_late : (limits : List Limits) (events : List Event) (e : Event) → HasPositiveCounts limits → closing_prefix limits events ≡ None → is_late limits events e ≡ true → closing_prefix limits (events ++ e ∷ []) ≡ None
open_after_late limits events e positive none late =
    let mark = late_mark limits events e none late in
    let below : IsOfMetricBelow (length limits) e = subst (IsOfMetricBelow (length limits)) (sym mark.marks) (slice_get_within limits mark.metric mark.own mark.there) in
    let same = (late_changes_nothing limits events e positive below late).phase in
    none_of (closing_prefix limits (events ++ e ∷ [])) (sym (is_complete-run_phase limits (events ++ e ∷ [])) ∙ (ap is_complete same ∙ (is_complete-run_phase limits events ∙ ap is_some none)))

-- ---- a run that no entry has closed

never_closes : (closer : Option ℕ) (entry : Entry) → closer_or closer entry ≡ None → (closer ≡ None) × (closes entry.effect ≡ false)
never_closes (Some number) entry is = absurd cc
never_closes None entry is = (refl, by_test (closes entry.effect) is) where
  by_test : (does : Bool) → (if does then Some entry.number else None) ≡ None → does ≡ false
  by_test true is = absurd cc
  by_test false is = refl

closed_effect : (limits : List Limits) (events : List Event) (e : Event) (q : Phase) → is_late limits events e ≡ false → closing limits (events ++ e ∷ []) ≡ Some q → effect_of limits events e ≡ effect.Closed q
unfolding effect_of
closed_effect limits events e q applied closed = rw (applied, closed) refl

none_closed : (limits : List Limits) → closing_prefix limits [] ≡ None
unfolding closing_prefix closing
none_closed limits = deciding_prefix-nil (closing limits) refl

pub never_closed : (bundle : Bundle) (run : ℕ) (limits : List Limits) → HasPositiveCounts limits → (entries : List Entry) → IsHistory bundle run limits entries → closer_of entries ≡ None → closing_prefix limits (events_in bundle entries) ≡ None
never_closed bundle run limits positive = push_induction Claim empty more where
  Claim : List Entry → Type 0
  Claim entries = IsHistory bundle run limits entries → closer_of entries ≡ None → closing_prefix limits (events_in bundle entries) ≡ None

  empty : Claim []
  empty is none = none_closed limits

  more : (entries : List Entry) (entry : Entry) → Claim entries → Claim (entries ++ entry ∷ [])
  more entries entry so_far is none =
      let parts = never_closes (closer_of entries) entry (sym (closer_push entries entry) ∙ none) in
      let last = last_is bundle run limits entries entry is in
      let events = events_in bundle entries in
      let before = so_far last.before parts.0 in
      ap (closing_prefix limits) last.events
      ∙ elim (cases_Bool (is_late limits events last.e)) [
        | inl late ↦ open_after_late limits events last.e positive before late
        | inr applied ↦
            elim (option_cases (closing limits (events ++ last.e ∷ []))) [
              | inl undecided ↦ rw (closing_prefix-push limits events last.e, before, undecided) refl
              | inr found ↦
                  let does : entry.effect ≡ effect.Closed found.0 = last.effect ∙ closed_effect limits events last.e found.0 applied found.1 in
                  absurd (false≢true (sym parts.1 ∙ ap closes does))
            ]
      ]

-- ---- whether an event leaves a metric complete

alike : (n : ℕ) → (n == n) ≡ true
alike n = grind (arith, nat_tests)

state_there : (limits : List Limits) (events : List Event) (metric : ℕ) (own : Limits) → slice_get limits metric ≡ Some own → closing_prefix limits events ≡ None
    → metric_after limits events metric ≡ Some (record { phase = phase_of_marks own (marks_of metric events); counts = counts_of (marks_of metric (timely limits events)) })
state_there limits events metric own there none = rw (phase_there limits events metric own there none, counts_there limits events metric own there) refl

leaves_own : (limits : List Limits) (events : List Event) (metric : ℕ) (m : Mark) (own : Limits) → slice_get limits metric ≡ Some own → closing_prefix limits events ≡ None → closing_prefix limits (events ++ event.Mark metric m ∷ []) ≡ None
    → leaves_complete metric (own_change limits events (event.Mark metric m)) ≡ is_complete (phase_of_marks own (marks_of metric (events ++ event.Mark metric m ∷ [])))
leaves_own limits events metric m own there none still =
    let after = events ++ event.Mark metric m ∷ [] in
    let was = state_there limits events metric own there none in
    let now = state_there limits after metric own there still in
    ap (λ (found : Option Limits). leaves_complete metric (option_and_then (λ own. change_with metric own (metric_after limits events metric) (metric_after limits after metric)) found)) there
    ∙ (ap (λ (before : Option MetricState). leaves_complete metric (change_with metric own before (metric_after limits after metric))) was
    ∙ (ap (λ (after : Option MetricState). leaves_complete metric (change_with metric own (Some (record { phase = phase_of_marks own (marks_of metric events); counts = counts_of (marks_of metric (timely limits events)) })) after)) now
    ∙ ap (λ own_metric. own_metric && is_complete (phase_of_marks own (marks_of metric after))) (alike metric)))

apart_by_mark : (metric other : ℕ) (m : Mark) → mark_of metric (event.Mark other m) ≡ None → (other == metric) ≡ false
apart_by_mark metric other m none = by_test (other == metric) none where
  by_test : (same : Bool) → (if same then Some m else None) ≡ None → same ≡ false
  by_test true is = absurd cc
  by_test false is = refl

leaves_other : (limits : List Limits) (events : List Event) (metric : ℕ) (e : Event) → mark_of metric e ≡ None → leaves_complete metric (own_change limits events e) ≡ false
leaves_other limits events metric event.Stop other = refl
leaves_other limits events metric (event.Mark number m) other =
    elim (option_cases (own_change limits events (event.Mark number m))) [
      | inl none ↦ ap (leaves_complete metric) none
      | inr found ↦
          let of = marked limits events (event.Mark number m) found.0 found.1 in
          let same : number ≡ found.0.metric = cc (of.marks) in
          let apart : (found.0.metric == metric) ≡ false = ap (λ number. number == metric) (sym same) ∙ apart_by_mark metric number m other in
          ap (leaves_complete metric) found.1 ∙ ap (λ own_metric. own_metric && is_complete found.0.after.phase) apart
    ]

-- it does just where the metric is complete after it
leaves_is : (limits : List Limits) (events : List Event) (metric : ℕ) (own : Limits) (e : Event) → slice_get limits metric ≡ Some own → closing_prefix limits events ≡ None → closing_prefix limits (events ++ e ∷ []) ≡ None → is_complete (phase_of_marks own (marks_of metric events)) ≡ false
    → leaves_complete metric (own_change limits events e) ≡ is_complete (phase_of_marks own (marks_of metric (events ++ e ∷ [])))
leaves_is limits events metric own e there none still incomplete =
    elim (option_cases (mark_of metric e)) [
      | inl other ↦ leaves_other limits events metric e other ∙ sym (ap (λ marks. is_complete (phase_of_marks own marks)) (marks_of-push_other metric events e other) ∙ incomplete)
      | inr found ↦ by_mark e found.0 found.1 still
    ]
  where
    by_mark : (e : Event) (m : Mark) → mark_of metric e ≡ Some m → closing_prefix limits (events ++ e ∷ []) ≡ None
        → leaves_complete metric (own_change limits events e) ≡ is_complete (phase_of_marks own (marks_of metric (events ++ e ∷ [])))
    by_mark event.Stop m is still = absurd cc
    by_mark (event.Mark number other) m is still =
        elim (cases_eq metric number) [
          | inl same ↦
              subst (λ (number : ℕ). closing_prefix limits (events ++ event.Mark number other ∷ []) ≡ None → leaves_complete metric (own_change limits events (event.Mark number other)) ≡ is_complete (phase_of_marks own (marks_of metric (events ++ event.Mark number other ∷ [])))) same
              (leaves_own limits events metric other own there none) still
          | inr apart ↦ absurd (unlike number other m apart is)
        ]
      where
        unlike : (number : ℕ) (other m : Mark) → (metric ≡ number → ⊥) → mark_of metric (event.Mark number other) ≡ Some m → ⊥
        unlike number other m apart is = let no : (number == metric) ≡ false = grind (arith, nat_tests) in let none : (let found : Option Mark = None in found) ≡ Some m = sym (ap (λ same. if same then Some other else None) no) ∙ is in cc

-- ---- the entry that completed a metric

abbrev phase_in : Bundle → (metric : ℕ) → Limits → List Entry → Phase
phase_in bundle metric own entries = phase_of_marks own (marks_of metric (events_in bundle entries))

record HasCompleter (bundle : Bundle) (limits : List Limits) (metric : ℕ) (own : Limits) (entries : List Entry) : Type 0 where
  before : List Entry
  completer : Entry
  between : List Entry
  entries_are : entries ≡ before ++ completer ∷ between
  found : completer_of bundle limits entries metric ≡ Some completer.number
  of_metric : is_entry_of bundle metric completer ≡ true
  open_before : is_complete (phase_in bundle metric own before) ≡ false
  complete_after : is_complete (phase_in bundle metric own (before ++ completer ∷ [])) ≡ true

-- there is one just where the metric is complete
record IsKnown (bundle : Bundle) (limits : List Limits) (metric : ℕ) (own : Limits) (entries : List Entry) : Type 0 where
  has : is_complete (phase_in bundle metric own entries) ≡ true → HasCompleter bundle limits metric own entries
  has_none : is_complete (phase_in bundle metric own entries) ≡ false → completer_of bundle limits entries metric ≡ None

none_yet : (bundle : Bundle) (limits : List Limits) (metric : ℕ) (own : Limits) → IfSome own.count (λ count. 1 ≤ count) → IsKnown bundle limits metric own []
unfolding with_earlier
none_yet bundle limits metric own positive = record {
  has = λ complete. absurd (false≢true (sym (ap (λ marks. is_complete (phase_of_marks own marks)) (no_marks metric) ∙ is_complete-phase_of_marks-nil own positive) ∙ complete));
  has_none = λ incomplete. refl;
}

-- one entry more, where the metric was complete
more_after : (bundle : Bundle) (run : ℕ) (limits : List Limits) (metric : ℕ) (own : Limits) (entries : List Entry) (entry : Entry) (e : Event) → events_in bundle (entries ++ entry ∷ []) ≡ events_in bundle entries ++ e ∷ [] → is_complete (phase_in bundle metric own entries) ≡ true
    → HasCompleter bundle limits metric own entries → IsKnown bundle limits metric own (entries ++ entry ∷ [])
more_after bundle run limits metric own entries entry e events complete has =
    let kept : completer_of bundle limits (entries ++ entry ∷ []) metric ≡ Some has.completer.number =
    elim (cases_Bool (leaves_complete metric (change_after bundle limits entries entry))) [
      | inl does ↦ completed bundle limits entries entry metric (change_after bundle limits entries entry) refl does ∙ ap (λ found. option_or found (Some entry.number)) has.found
      | inr passes ↦ unchanged bundle limits entries entry metric (change_after bundle limits entries entry) refl passes ∙ has.found
    ] in
    let stays : phase_in bundle metric own (entries ++ entry ∷ []) ≡ phase_in bundle metric own entries =
    ap (λ events. phase_of_marks own (marks_of metric events)) events ∙ phase_stays metric own (events_in bundle entries) (e ∷ []) complete in
    record {
      has = λ still. record {
        before = has.before;
        completer = has.completer;
        between = has.between ++ entry ∷ [];
        entries_are = ap (λ entries. entries ++ entry ∷ []) has.entries_are ∙ append_assoc has.before (has.completer ∷ has.between) (entry ∷ []);
        found = kept;
        of_metric = has.of_metric;
        open_before = has.open_before;
        complete_after = has.complete_after;
      };
      has_none = λ incomplete. absurd (false≢true (sym incomplete ∙ (ap is_complete stays ∙ complete)));
    }

-- and where it wasn't
more_before : (bundle : Bundle) (limits : List Limits) (metric : ℕ) (own : Limits) (entries : List Entry) (entry : Entry) (e : Event) → happened bundle entry.number ≡ Some e → events_in bundle (entries ++ entry ∷ []) ≡ events_in bundle entries ++ e ∷ []
    → is_complete (phase_in bundle metric own entries) ≡ false → completer_of bundle limits entries metric ≡ None
    → leaves_complete metric (change_after bundle limits entries entry) ≡ is_complete (phase_in bundle metric own (entries ++ entry ∷ [])) → IsKnown bundle limits metric own (entries ++ entry ∷ [])
more_before bundle limits metric own entries entry e happens events incomplete none leaves = record {
  has = λ complete. record {
    before = entries;
    completer = entry;
    between = [];
    entries_are = refl;
    found = completed bundle limits entries entry metric (change_after bundle limits entries entry) refl (leaves ∙ complete) ∙ ap (λ found. option_or found (Some entry.number)) none;
    of_metric = elim (cases_Bool (is_entry_of bundle metric entry)) [
      | inl is ↦ is
      | inr other ↦
          let same : marks_of metric (events_in bundle (entries ++ entry ∷ [])) ≡ marks_of metric (events_in bundle entries) = ap (marks_of metric) events ∙ marks_of-push_other metric (events_in bundle entries) e (no_mark bundle entry metric e other happens) in
          absurd (false≢true (sym incomplete ∙ (sym (ap (λ marks. is_complete (phase_of_marks own marks)) same) ∙ complete)))
    ];
    open_before = incomplete;
    complete_after = complete;
  };
  has_none = λ still. unchanged bundle limits entries entry metric (change_after bundle limits entries entry) refl (leaves ∙ still) ∙ none;
}

known : (bundle : Bundle) (run : ℕ) (limits : List Limits) (metric : ℕ) (own : Limits) → slice_get limits metric ≡ Some own → IfSome own.count (λ count. 1 ≤ count)
    → (entries : List Entry) → IsHistory bundle run limits entries → closing_prefix limits (events_in bundle entries) ≡ None → IsKnown bundle limits metric own entries
known bundle run limits metric own there positive = push_induction Claim empty more where
  Claim : List Entry → Type 0
  Claim entries = IsHistory bundle run limits entries → closing_prefix limits (events_in bundle entries) ≡ None → IsKnown bundle limits metric own entries

  empty : Claim []
  empty is none = none_yet bundle limits metric own positive

  more : (entries : List Entry) (entry : Entry) → Claim entries → Claim (entries ++ entry ∷ [])
  more entries entry so_far is none =
      let last = last_is bundle run limits entries entry is in
      let events = events_in bundle entries in
      let still : closing_prefix limits (events ++ last.e ∷ []) ≡ None = ap (closing_prefix limits) (sym last.events) ∙ none in
      let before = open_front limits events (last.e ∷ []) still in
      let was = so_far last.before before in
      elim (cases_Bool (is_complete (phase_in bundle metric own entries))) [
        | inl complete ↦ more_after bundle run limits metric own entries entry last.e last.events complete (was.has complete)
        | inr incomplete ↦
            let leaves : leaves_complete metric (change_after bundle limits entries entry) ≡ is_complete (phase_in bundle metric own (entries ++ entry ∷ [])) =
            ap (λ (e : Option Event). leaves_complete metric (option_and_then (own_change limits events) e)) last.happens
            ∙ (leaves_is limits events metric own last.e there before still incomplete ∙ ap (λ events. is_complete (phase_of_marks own (marks_of metric events))) (sym last.events)) in
            more_before bundle limits metric own entries entry last.e last.happens last.events incomplete (was.has_none incomplete) leaves
      ]

-- ---- the laws

own_positive : (limits : List Limits) (metric : ℕ) (own : Limits) → HasPositiveCounts limits → slice_get limits metric ≡ Some own → IfSome own.count (λ count. 1 ≤ count)
own_positive limits metric own positive there = rw (get_or_from_slice_get limits metric own own there) at (positive metric own (slice_get_within limits metric own there))

pub late_after_the_completer : LateAfterTheCompleter
late_after_the_completer bundle run limits earlier entry later reached since positive is why =
    let step = metric_was (step_after bundle limits earlier entry) reached since why in
    let last = entry_is bundle run limits earlier entry later is in
    let events = events_in bundle earlier in
    let none = never_closed bundle run limits positive earlier last.before step.never_closed in
    let fronts = changes_are_of_fronts bundle limits earlier entry step.change step.changes in
    let metric = step.change.metric in
    let own = step.change.limits in
    let there = fronts.limits_are in
    let of = of_mark bundle limits earlier entry step.change step.changes in
    let late = late_mark limits events last.e none (late_where limits events last.e (sym last.effect ∙ step.effect)) in
    let same : last.e ≡ of.e = cc (last.happens, of.happens) in
    let marks : event.Mark late.metric late.m ≡ event.Mark metric of.changes.m = sym late.marks ∙ (same ∙ of.changes.marks) in
    let number : late.metric ≡ metric = cc (marks) in
    let limits_same : late.own ≡ own = cc (late.there, there, number) in
    let complete : is_complete (phase_in bundle metric own earlier) ≡ true =
    sym (ap (λ (number : ℕ). is_complete (phase_of_marks late.own (marks_of number events))) number ∙ ap (λ (own : Limits). is_complete (phase_of_marks own (marks_of metric events))) limits_same) ∙ late.complete in
    let has = (known bundle run limits metric own there (own_positive limits metric own positive there) earlier last.before none).has complete in
    let front = has.before ++ has.completer ∷ [] in
    let cut : events ≡ events_in bundle front ++ events_in bundle has.between =
    ap (events_in bundle) (has.entries_are ∙ sym (append_assoc has.before (has.completer ∷ []) has.between)) ∙ events_in-append bundle front has.between in
    let cut_before : events ≡ events_in bundle has.before ++ events_in bundle (has.completer ∷ has.between) =
    ap (events_in bundle) has.entries_are ∙ events_in-append bundle has.before (has.completer ∷ has.between) in
    let open_at = λ (front back : List Event) (split : events ≡ front ++ back). open_front limits front back (ap (closing_prefix limits) (sym split) ∙ none) in
    let phases : Some step.change.before.phase ≡ Some (phase_in bundle metric own earlier) = sym fronts.phase_before ∙ phase_there limits events metric own there none in
    let before : step.change.before.phase ≡ phase_in bundle metric own earlier = cc in
    let now : phase_in bundle metric own earlier ≡ reached = sym before ∙ step.reached_is in
    let stays : phase_in bundle metric own earlier ≡ phase_in bundle metric own front =
    ap (λ events. phase_of_marks own (marks_of metric events)) cut ∙ phase_stays metric own (events_in bundle front) (events_in bundle has.between) has.complete_after in
    record {
      metric = metric;
      of_metric = fronts.of_metric;
      before = has.before;
      completer = has.completer;
      between = has.between;
      earlier_are = has.entries_are;
      since_is = sym step.since_is ∙ (ap (own_completer bundle limits earlier) step.changes ∙ has.found);
      of_same = has.of_metric;
      open_before = ap (option_map is_complete) (phase_there limits (events_in bundle has.before) metric own there (open_at (events_in bundle has.before) (events_in bundle (has.completer ∷ has.between)) cut_before)) ∙ ap (λ does. Some does) has.open_before;
      reached_after = phase_there limits (events_in bundle front) metric own there (open_at (events_in bundle front) (events_in bundle has.between) cut) ∙ ap (λ phase. Some phase) (sym stays ∙ now);
      complete = ap is_complete (sym now) ∙ complete;
    }

-- a metric of the run has a state after any events
has_state : (limits : List Limits) (events : List Event) (metric : ℕ) → metric < length limits → (state : MetricState) × (metric_after limits events metric ≡ Some state)
has_state limits events metric below =
    by_parts (slice_get (metric_phases limits events) metric) (slice_get (metric_counts limits events) metric) (sym phase_there_is) (sym counts_there_is)
  where
    by_parts : (phase : Option Phase) (counts : Option Counts) → is_some phase ≡ true → is_some counts ≡ true → (state : MetricState) × (option_and_then (λ phase. option_map (λ counts. (let made : MetricState = record { phase = phase; counts = counts } in made)) counts) phase ≡ Some state)
    by_parts None counts some others = absurd cc
    by_parts (Some phase) None some others = absurd cc
    by_parts (Some phase) (Some counts) some others = (record { phase = phase; counts = counts }, refl)

    inside : {A : Type 0} (xs : List A) → length xs ≡ length limits → true ≡ is_some (slice_get xs metric)
    inside xs long =
        elim (slice_get_cases xs metric).1 [
          | inl found ↦ sym (ap is_some found.2)
          | inr past ↦ absurd (omega arith)
        ]

    phase_there_is : true ≡ is_some (slice_get (metric_phases limits events) metric)
    phase_there_is = inside (metric_phases limits events) (one_for_each_metric limits events).0

    counts_there_is : true ≡ is_some (slice_get (metric_counts limits events) metric)
    counts_there_is = inside (metric_counts limits events) (one_for_each_metric limits events).1

change_there : (limits : List Limits) (events : List Event) (metric : ℕ) (m : Mark) (own : Limits) → slice_get limits metric ≡ Some own → is_some (own_change limits events (event.Mark metric m)) ≡ true
change_there limits events metric m own there =
    let below = slice_get_within limits metric own there in
    let after = events ++ event.Mark metric m ∷ [] in
    let was = has_state limits events metric below in
    let now = has_state limits after metric below in
    ap (λ (found : Option Limits). is_some (option_and_then (λ own. change_with metric own (metric_after limits events metric) (metric_after limits after metric)) found)) there
    ∙ (ap (λ (before : Option MetricState). is_some (change_with metric own before (metric_after limits after metric))) was.1
    ∙ ap (λ (after : Option MetricState). is_some (change_with metric own (Some was.0) after)) now.1)

pub change_there_below : (limits : List Limits) (events : List Event) (metric : ℕ) (m : Mark) → metric < length limits → is_some (own_change limits events (event.Mark metric m)) ≡ true
change_there_below limits events metric m below =
    elim (slice_get_cases limits metric).1 [
      | inl found ↦ change_there limits events metric m found.0 found.2
      | inr past ↦ absurd (omega arith)
    ]

pub late_for_a_reason : LateForAReason
late_for_a_reason bundle run limits earlier entry later positive is late =
    let last = entry_is bundle run limits earlier entry later is in
    let events = events_in bundle earlier in
    let step = step_after bundle limits earlier entry in
    ap (λ (own : Effect). is_some (why_by own step)) late
    ∙ elim (option_cases (closer_of earlier)) [
      | inl never ↦
          let none = never_closed bundle run limits positive earlier last.before never in
          let mark = late_mark limits events last.e none (late_where limits events last.e (sym last.effect ∙ late)) in
          let changes : is_some (change_after bundle limits earlier entry) ≡ true =
          ap (λ (e : Option Event). is_some (option_and_then (own_change limits events) e)) (last.happens ∙ ap (λ (e : Event). Some e) mark.marks) ∙ change_there limits events mark.metric mark.m mark.own mark.there in
          ap (λ (closer : Option ℕ). is_some (why_late closer step.change step.completer)) never ∙ by_change step.change step.completer changes
      | inr found ↦ ap (λ (closer : Option ℕ). is_some (why_late closer step.change step.completer)) found.1
    ]
  where
    by_change : (change : Option Change) (completer : Option ℕ) → is_some change ≡ true → is_some (why_late None change completer) ≡ true
    by_change None completer is = absurd cc
    by_change (Some change) completer is = refl
