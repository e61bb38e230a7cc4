-- The counts of a metric are of the events of its run.
use Rattle.std.proofs.Common.{◌≡◌, ◌≤◌, ℕ, ◌+◌, Some, List, [], ◌∷◌, ◌++◌, length, refl, ap, ◌∙◌, sym, arith, inl, inr}
use Rattle.std.proofs.lemmas.Bool.{cases_Bool}
use Rattle.std.proofs.lemmas.List.{length-append}
use Rattle.ar_limits.proofs.MetricLemmas.{counts_of-push}
use Rattle.ar_limits.proofs.PrefixLemmas.{option_cases, push_induction}
use Rattle.ar_limits.proofs.RunLemmas.{marks_of-push_mark, marks_of-push_other, timely-push_applied, timely-push_late}
use Rattle.ar_limits.proofs.StepLemmas.{no_marks}
use Rattle.ar_limits.specs.Metric.{counted, counts_of}
use Rattle.ar_limits.specs.Prefixes.{with_earlier}
use Rattle.ar_limits.specs.Private.Step.{with_mark}
use Rattle.ar_limits.specs.Run.{is_late, mark_of, marks_of, timely}
use Rattle.ar_limits.specs.declared.counts.Counts.{Counts}
use Rattle.ar_limits.specs.declared.event.Event.{Event}
use Rattle.ar_limits.specs.declared.event.Mark.{Mark}
use Rattle.ar_limits.specs.declared.event.Mark.TheVariants as mark
use Rattle.ar_limits.specs.declared.limits.Limits.{Limits}
use Rattle.ar_progress.proofs.Closes.{counts_there}
use Rattle.ar_progress.specs.Laws.{CountsAreOfEvents}

one_more : (counts : Counts) (m : Mark) → counted (with_mark counts m) + (with_mark counts m).error ≡ counted counts + counts.error + 1
one_more counts mark.Successful = omega arith
one_more counts mark.Failed = omega arith
one_more counts mark.Inconclusive = omega arith
one_more counts mark.Error = omega arith

none_counted : counted (counts_of []) + (counts_of []).error ≡ 0
unfolding counts_of
none_counted = refl

all_counted : (marks : List Mark) → counted (counts_of marks) + (counts_of marks).error ≡ length marks
all_counted = push_induction (λ marks. counted (counts_of marks) + (counts_of marks).error ≡ length marks) none_counted more where
  more : (marks : List Mark) (m : Mark) → counted (counts_of marks) + (counts_of marks).error ≡ length marks → counted (counts_of (marks ++ m ∷ [])) + (counts_of (marks ++ m ∷ [])).error ≡ length (marks ++ m ∷ [])
  more marks m so_far =
      ap (λ (counts : Counts). counted counts + counts.error) (counts_of-push marks m)
      ∙ (one_more (counts_of marks) m ∙ (ap (λ all. all + 1) so_far ∙ sym (length-append marks (m ∷ []))))

few_marks : (metric : ℕ) (events : List Event) → length (marks_of metric events) ≤ length events
few_marks metric = push_induction (λ events. length (marks_of metric events) ≤ length events) empty more where
  empty : length (marks_of metric []) ≤ length (let none : List Event = [] in none)
  empty = rw (no_marks metric) (omega arith)

  more : (events : List Event) (e : Event) → length (marks_of metric events) ≤ length events → length (marks_of metric (events ++ e ∷ [])) ≤ length (events ++ e ∷ [])
  more events e so_far =
      elim (option_cases (mark_of metric e)) [
        | inl none ↦ rw (marks_of-push_other metric events e none) (omega (arith, so_far, length-append events (e ∷ [])))
        | inr found ↦ rw (marks_of-push_mark metric events e found.0 found.1) (omega (arith, so_far, length-append events (e ∷ []), length-append (marks_of metric events) (found.0 ∷ [])))
      ]

none_timely : (limits : List Limits) → length (timely limits []) ≤ 0
unfolding timely with_earlier
none_timely limits = omega arith

few_timely : (limits : List Limits) (events : List Event) → length (timely limits events) ≤ length events
few_timely limits = push_induction (λ events. length (timely limits events) ≤ length events) (none_timely limits) more where
  more : (events : List Event) (e : Event) → length (timely limits events) ≤ length events → length (timely limits (events ++ e ∷ [])) ≤ length (events ++ e ∷ [])
  more events e so_far =
      elim (cases_Bool (is_late limits events e)) [
        | inl late ↦ rw (timely-push_late limits events e late) (omega (arith, so_far, length-append events (e ∷ [])))
        | inr applied ↦ rw (timely-push_applied limits events e applied) (omega (arith, so_far, length-append events (e ∷ []), length-append (timely limits events) (e ∷ [])))
      ]

pub counts_are_of_events : CountsAreOfEvents
counts_are_of_events limits events metric own counts there is =
    let marks = marks_of metric (timely limits events) in
    let found : Some (counts_of marks) ≡ Some counts = sym (counts_there limits events metric own there) ∙ is in
    let same : counts_of marks ≡ counts = cc in
    let all : counted counts + counts.error ≡ length marks = sym (ap (λ (counts : Counts). counted counts + counts.error) same) ∙ all_counted marks in
    omega (arith, all, few_marks metric (timely limits events), few_timely limits events)
