-- Fronts of the events of a run: what is open after all of them was open after each front.
use Rattle.std.proofs.Common.{◌≡◌, ℕ, true, false, Some, None, is_some, List, [], ◌∷◌, ◌++◌, refl, ap, ◌∙◌, sym, inl, inr}
use Rattle.std.specs.Prelude.{slice_get}
use Rattle.std.proofs.lemmas.Bool.{cases_Bool, false≢true}
use Rattle.std.proofs.lemmas.List.{map-append}
use Rattle.std.proofs.lemmas.List.Elements.{filter_map-append}
use Rattle.ar_limits.proofs.LawLemmas.{metric_phase_stays, run_phase_stays}
use Rattle.ar_limits.proofs.MetricLemmas.{decision-complete}
use Rattle.ar_limits.proofs.PrefixLemmas.{deciding_prefix-whole, is_complete-phase_by, none_of, option_cases}
use Rattle.ar_limits.proofs.RunLemmas.{is_complete-run_phase, metric_phases-open, phases_by_marks-get}
use Rattle.ar_limits.proofs.StepLemmas.{marks_of-timely}
use Rattle.ar_limits.specs.Metric.{counts_of, decision, is_complete, phase_of_marks}
use Rattle.ar_limits.specs.Prefixes.{deciding_prefix}
use Rattle.ar_limits.specs.Run.{closing_prefix, mark_of, marks_of, metric_counts, metric_phases, run_phase}
use Rattle.ar_limits.specs.declared.event.Event.{Event}
use Rattle.ar_limits.specs.declared.event.Mark.{Mark}
use Rattle.ar_limits.specs.declared.limits.Limits.{Limits}
use Rattle.ar_bundle.specs.Bundle.{Bundle, events_of, happened}
use Rattle.ar_bundle.specs.Lawful.{numbers_of}
use Rattle.ar_bundle.specs.declared.history.Entry.{Entry}
use Rattle.ar_progress.proofs.Closes.{counts_there}
use Rattle.ar_progress.specs.Laws.{events_in}

-- ---- the run

pub open_front : (limits : List Limits) (front back : List Event) → closing_prefix limits (front ++ back) ≡ None → closing_prefix limits front ≡ None
open_front limits front back none =
    elim (option_cases (closing_prefix limits front)) [
      | inl is_open ↦ is_open
      | inr found ↦
          let complete : is_complete (run_phase limits front) ≡ true = is_complete-run_phase limits front ∙ ap is_some found.1 in
          let open_after : is_complete (run_phase limits (front ++ back)) ≡ false = is_complete-run_phase limits (front ++ back) ∙ ap is_some none in
          absurd (false≢true (sym open_after ∙ (ap is_complete (run_phase_stays limits front back complete).phase ∙ complete)))
    ]

-- ---- a metric

pub marks_of-append : (metric : ℕ) (front back : List Event) → marks_of metric (front ++ back) ≡ marks_of metric front ++ marks_of metric back
unfolding marks_of
marks_of-append metric front back = filter_map-append (mark_of metric) front back

pub phase_stays : (metric : ℕ) (own : Limits) (front back : List Event) → is_complete (phase_of_marks own (marks_of metric front)) ≡ true → phase_of_marks own (marks_of metric (front ++ back)) ≡ phase_of_marks own (marks_of metric front)
phase_stays metric own front back complete =
    ap (phase_of_marks own) (marks_of-append metric front back) ∙ metric_phase_stays own (marks_of metric front) (marks_of metric back) complete

pub incomplete_front : (metric : ℕ) (own : Limits) (front back : List Event) → is_complete (phase_of_marks own (marks_of metric (front ++ back))) ≡ false → is_complete (phase_of_marks own (marks_of metric front)) ≡ false
incomplete_front metric own front back incomplete =
    elim (cases_Bool (is_complete (phase_of_marks own (marks_of metric front)))) [
      | inl complete ↦ absurd (false≢true (sym incomplete ∙ (ap is_complete (phase_stays metric own front back complete) ∙ complete)))
      | inr before ↦ before
    ]

-- the marks of an incomplete metric decide nothing
pub undecided : (own : Limits) (marks : List Mark) → is_complete (phase_of_marks own marks) ≡ false → decision own marks ≡ None
unfolding phase_of_marks
undecided own marks incomplete =
    deciding_prefix-whole (decision own) marks (none_of (deciding_prefix (decision own) marks) (sym (is_complete-phase_by (decision own) marks (decision-complete own)) ∙ incomplete))

-- ---- a metric of an open run

pub phase_there : (limits : List Limits) (events : List Event) (metric : ℕ) (own : Limits) → slice_get limits metric ≡ Some own → closing_prefix limits events ≡ None → slice_get (metric_phases limits events) metric ≡ Some (phase_of_marks own (marks_of metric events))
phase_there limits events metric own there none =
    ap (λ phases. slice_get phases metric) (metric_phases-open limits events none) ∙ phases_by_marks-get limits events metric own there

pub open_counts_there : (limits : List Limits) (events : List Event) (metric : ℕ) (own : Limits) → slice_get limits metric ≡ Some own → closing_prefix limits events ≡ None → is_complete (phase_of_marks own (marks_of metric events)) ≡ false
    → slice_get (metric_counts limits events) metric ≡ Some (counts_of (marks_of metric events))
open_counts_there limits events metric own there none incomplete =
    counts_there limits events metric own there ∙ ap (λ marks. Some (counts_of marks)) (marks_of-timely limits metric own there events none incomplete)

-- ---- the events of entries

pub events_in-append : (bundle : Bundle) (front back : List Entry) → events_in bundle (front ++ back) ≡ events_in bundle front ++ events_in bundle back
events_in-append bundle front back =
    ap (events_of bundle) (map-append (λ (entry : Entry). entry.number) front back) ∙ filter_map-append (happened bundle) (numbers_of front) (numbers_of back)

pub events_in-one : (bundle : Bundle) (entry : Entry) (event : Event) → happened bundle entry.number ≡ Some event → events_in bundle (entry ∷ []) ≡ event ∷ []
events_in-one bundle entry event is = rw is refl

pub events_in-none : (bundle : Bundle) (entry : Entry) → happened bundle entry.number ≡ None → events_in bundle (entry ∷ []) ≡ []
events_in-none bundle entry is = rw is refl

pub events_in-push : (bundle : Bundle) (front : List Entry) (entry : Entry) (event : Event) → happened bundle entry.number ≡ Some event → events_in bundle (front ++ entry ∷ []) ≡ events_in bundle front ++ event ∷ []
events_in-push bundle front entry event is = events_in-append bundle front (entry ∷ []) ∙ ap (λ last. events_in bundle front ++ last) (events_in-one bundle entry event is)
