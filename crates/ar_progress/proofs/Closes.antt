-- The counts of a metric in the end decide just where its marks had completed it when its run closed.
use Rattle.std.proofs.Common.{◌≡◌, ◌≤◌, ℕ, Bool, true, false, cond, Option, Some, None, is_some, unwrap_or, List, [], ◌∷◌, ◌++◌, IfSome, refl, ap, ◌∙◌, sym, subst, inl, inr}
use Rattle.std.specs.Prelude.{slice_get}
use Rattle.std.specs.Option.{option_or}
use Rattle.std.proofs.lemmas.Bool.{cases_Bool, cases_eq}
use Rattle.ar_limits.proofs.MetricLemmas.{counts_of-push, decision-complete, decision-nil}
use Rattle.ar_limits.proofs.NumberedLemmas.{numbered_get}
use Rattle.ar_limits.proofs.PrefixLemmas.{option_cases, push_induction}
use Rattle.ar_limits.proofs.RunLemmas.{closing_prefix-push, mark_of-other, mark_of-own, marks_of-push_mark, marks_of-push_other, phases_by_marks-get, timely-push_applied, timely-push_late}
use Rattle.ar_limits.proofs.StepLemmas.{is_complete-phase_of_marks-nil, is_late-closed, marks_of-timely, phase_of_marks-push_complete, phase_of_marks-push_open}
use Rattle.ar_limits.specs.Metric.{counts_of, decided_by, decision, is_complete, phase_of_marks}
use Rattle.ar_limits.specs.Prefixes.{deciding_prefix, prefixes, with_earlier}
use Rattle.ar_limits.specs.Run.{closing, closing_prefix, is_late, mark_of, marks_of, metric_counts, timely}
use Rattle.ar_limits.specs.declared.event.Event.{Event}
use Rattle.ar_limits.specs.declared.event.Event.TheVariants as event
use Rattle.ar_limits.specs.declared.event.Mark.{Mark}
use Rattle.ar_limits.specs.declared.limits.Limits.{Limits}
use Rattle.ar_limits.specs.declared.phase.Phase.{Phase}
use Rattle.ar_limits.specs.declared.phase.Phase.TheVariants as phase
use Rattle.ar_progress.specs.Laws.{SettledByTheClose}

abbrev positive : Limits → Type 0
positive own = IfSome own.count (λ count. 1 ≤ count)

-- by the marks that aren't late, and by those of the closing prefix, or of all events where none closes
abbrev Alike : List Limits → (metric : ℕ) → Limits → List Event → Type 0
Alike limits metric own events = is_some (decision own (marks_of metric (timely limits events))) ≡ is_complete (phase_of_marks own (marks_of metric (unwrap_or (closing_prefix limits events) events)))

either : {A : Type 0} (x : A) (closes : Bool) → unwrap_or (cond closes (Some x) None) x ≡ x
either x true = refl
either x false = refl

complete_where : (own : Limits) (marks : List Mark) (found : Option Phase) → decision own marks ≡ found → is_some found ≡ is_complete (unwrap_or found phase.Running)
complete_where own marks None is = refl
complete_where own marks (Some reached) is = sym ((decision-complete own).complete marks reached is)

alike-nil : (limits : List Limits) (metric : ℕ) (own : Limits) → positive own → Alike limits metric own []
unfolding timely with_earlier marks_of closing_prefix deciding_prefix prefixes closing
alike-nil limits metric own is = ap is_some (decision-nil own is) ∙ sym (is_complete-phase_of_marks-nil own is)

-- ---- one event more

after_close : (limits : List Limits) (metric : ℕ) (own : Limits) (events prefix : List Event) (e : Event) → closing_prefix limits events ≡ Some prefix → Alike limits metric own events → Alike limits metric own (events ++ e ∷ [])
after_close limits metric own events prefix e closed so_far =
    let same : closing_prefix limits (events ++ e ∷ []) ≡ Some prefix = closing_prefix-push limits events e ∙ ap (λ found. option_or found (cond (is_some (closing limits (events ++ e ∷ []))) (Some (events ++ e ∷ [])) None)) closed in
    rw (timely-push_late limits events e (is_late-closed limits events prefix e closed), same) (rw closed at so_far)

-- while the run is open
abbrev AlikeOpen : List Limits → (metric : ℕ) → Limits → List Event → Type 0
AlikeOpen limits metric own events = is_some (decision own (marks_of metric (timely limits events))) ≡ is_complete (phase_of_marks own (marks_of metric events))

of_another : (limits : List Limits) (metric : ℕ) (own : Limits) (events : List Event) (e : Event) → mark_of metric e ≡ None → AlikeOpen limits metric own events → AlikeOpen limits metric own (events ++ e ∷ [])
of_another limits metric own events e apart so_far =
    elim (cases_Bool (is_late limits events e)) [
      | inl late ↦ rw (timely-push_late limits events e late, marks_of-push_other metric events e apart) so_far
      | inr applied ↦ rw (timely-push_applied limits events e applied, marks_of-push_other metric (timely limits events) e apart, marks_of-push_other metric events e apart) so_far
    ]

late_is : (limits : List Limits) (metric : ℕ) (own : Limits) (events : List Event) (m : Mark) → closing_prefix limits events ≡ None → slice_get limits metric ≡ Some own
    → is_late limits events (event.Mark metric m) ≡ is_complete (phase_of_marks own (marks_of metric events))
unfolding is_late
late_is limits metric own events m none there = rw (none, phases_by_marks-get limits events metric own there) refl

of_own : (limits : List Limits) (metric : ℕ) (own : Limits) (events : List Event) (m : Mark) → closing_prefix limits events ≡ None → slice_get limits metric ≡ Some own → AlikeOpen limits metric own events → AlikeOpen limits metric own (events ++ event.Mark metric m ∷ [])
unfolding decision
of_own limits metric own events m none there so_far =
    let more = λ (es : List Event). marks_of-push_mark metric es (event.Mark metric m) m (mark_of-own metric m) in
    let late = late_is limits metric own events m none there in
    elim (cases_Bool (is_complete (phase_of_marks own (marks_of metric events)))) [
      | inl complete ↦ rw (timely-push_late limits events (event.Mark metric m) (late ∙ complete), more events, phase_of_marks-push_complete own (marks_of metric events) m complete) so_far
      | inr before ↦
          let marks = marks_of metric events in
          rw (timely-push_applied limits events (event.Mark metric m) (late ∙ before), more (timely limits events), more events, marks_of-timely limits metric own there events none before, phase_of_marks-push_open own marks m before)
          (complete_where own (marks ++ m ∷ []) (decided_by own (counts_of (marks ++ m ∷ []))) refl ∙ ap (λ counts. is_complete (unwrap_or (decided_by own counts) phase.Running)) (counts_of-push marks m))
    ]

while_open : (limits : List Limits) (metric : ℕ) (own : Limits) (events : List Event) (e : Event) → closing_prefix limits events ≡ None → slice_get limits metric ≡ Some own → AlikeOpen limits metric own events → AlikeOpen limits metric own (events ++ e ∷ [])
while_open limits metric own events event.Stop none there so_far = of_another limits metric own events event.Stop refl so_far
while_open limits metric own events (event.Mark other m) none there so_far =
    elim (cases_eq metric other) [
      | inl same ↦ subst (λ (number : ℕ). AlikeOpen limits metric own (events ++ event.Mark number m ∷ [])) same (of_own limits metric own events m none there so_far)
      | inr apart ↦ of_another limits metric own events (event.Mark other m) (mark_of-other other metric m apart) so_far
    ]

alike-push : (limits : List Limits) (metric : ℕ) (own : Limits) → slice_get limits metric ≡ Some own → (events : List Event) (e : Event) → Alike limits metric own events → Alike limits metric own (events ++ e ∷ [])
alike-push limits metric own there events e so_far =
    elim (option_cases (closing_prefix limits events)) [
      | inl none ↦
          let all = events ++ e ∷ [] in
          let whole : unwrap_or (closing_prefix limits all) all ≡ all = ap (λ found. unwrap_or found all) (closing_prefix-push limits events e ∙ ap (λ found. option_or found (cond (is_some (closing limits all)) (Some all) None)) none) ∙ either all (is_some (closing limits all)) in
          rw whole (while_open limits metric own events e none there (rw none at so_far))
      | inr found ↦ after_close limits metric own events found.0 e found.1 so_far
    ]

alike : (limits : List Limits) (metric : ℕ) (own : Limits) → positive own → slice_get limits metric ≡ Some own → (events : List Event) → Alike limits metric own events
alike limits metric own is there events = push_induction (Alike limits metric own) (alike-nil limits metric own is) (alike-push limits metric own there) events

pub counts_there : (limits : List Limits) (events : List Event) (metric : ℕ) (own : Limits) → slice_get limits metric ≡ Some own → slice_get (metric_counts limits events) metric ≡ Some (counts_of (marks_of metric (timely limits events)))
unfolding metric_counts
counts_there limits events metric own there = numbered_get (λ (x : ℕ × Limits). counts_of (marks_of x.0 (timely limits events))) limits metric own there

pub settled_by_the_close : SettledByTheClose
unfolding decision
settled_by_the_close limits events prefix metric own counts is closed there has =
    let same : Some (counts_of (marks_of metric (timely limits events))) ≡ Some counts = sym (counts_there limits events metric own there) ∙ has in
    let counted : counts ≡ counts_of (marks_of metric (timely limits events)) = cc in
    let found = alike limits metric own is there events in
    rw counted (rw closed at found)
