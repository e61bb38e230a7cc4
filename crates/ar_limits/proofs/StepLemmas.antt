-- One event more, by running counts, is what the definition says of the longer list.
use Rattle.std.proofs.Common.{◌≡◌, ℕ, ◌≤◌, Bool, true, false, cond, Some, None, is_some, unwrap_or, List, [], ◌∷◌, ◌++◌, map, length, refl, ap, ◌∙◌, sym, IfSome, get_or, subst, inl, inr}
use Rattle.std.proofs.Math.ListN.{set}
use Rattle.std.specs.Prelude.{slice_get}
use Rattle.std.specs.List.{enumerate_from}
use Rattle.std.proofs.lemmas.List.{set-get_or}
use Rattle.std.proofs.lemmas.Option.{get_or_from_slice_get, slice_get-get_or, slice_get_within}
use Rattle.std.proofs.lemmas.Bool.{false≢true, cases_eq, cases_Bool}
use Rattle.ar_limits.specs.declared.counts.Counts.{Counts}
use Rattle.ar_limits.specs.declared.event.Event.{Event}
use Rattle.ar_limits.specs.declared.event.Event.TheVariants as event
use Rattle.ar_limits.specs.declared.event.Mark.{Mark}
use Rattle.ar_limits.specs.declared.limits.Limits.{Limits}
use Rattle.ar_limits.specs.declared.phase.Phase.{Phase}
use Rattle.ar_limits.specs.declared.phase.Phase.TheVariants as phase
use Rattle.ar_limits.specs.Prefixes.{deciding_prefix, with_earlier}
use Rattle.ar_limits.specs.Metric.{counts_of, decision, phase_of_marks, is_complete, HasPositiveCounts}
use Rattle.ar_limits.specs.Run.{mark_of, marks_of, phases_by_marks, ends_with_stop, closed_by_metrics, phases_for_run, closing, closing_prefix, run_phase, metric_phases, metric_was_complete, is_late, effect_of, timely, metric_counts}
use Rattle.ar_limits.specs.Replay.{Standing, IsOfMetricBelow}
use Rattle.ar_limits.specs.Private.Step.{with_mark, phase_by_counts, no_counts, no_limits, comes_late, with_event, closing_now, next, answer}
use Rattle.ar_limits.proofs.PrefixLemmas.{option_cases, none_of, option_or-none, deciding_prefix-nil, deciding_prefix-whole, push_induction, phase_by-push_complete, phase_by-push_open, is_complete-phase_by}
use Rattle.ar_limits.proofs.MetricLemmas.{counts_of-push, decision-complete, decision-nil}
use Rattle.ar_limits.proofs.NumberedLemmas.{numbered_same, numbered_set, numbered_get}
use Rattle.ar_limits.proofs.RunLemmas.{marks_of-push_other, marks_of-push_mark, mark_of-own, mark_of-other, phases_by_marks-push_stop, phases_by_marks-push_mark, phases_by_marks-get, closing-push, closing_prefix-push, is_complete-run_phase, run_phase-push_closed, run_phase-push_open, run_phase-open, metric_phases-open, metric_phases-closed, timely-push_late, timely-push_applied}

-- the state of a run after these events, with any number of them
abbrev pub standing_after : List Limits → List Event → ℕ → Standing
standing_after limits events handed = record { limits = limits; phases = metric_phases limits events; counts = metric_counts limits events; phase = run_phase limits events; handed = handed }

-- ---- A metric

pub is_complete-phase_of_marks-nil : (l : Limits) → IfSome l.count (λ count. 1 ≤ count)
    → is_complete (phase_of_marks l []) ≡ false
unfolding phase_of_marks
is_complete-phase_of_marks-nil l positive = is_complete-phase_by (decision l) [] (decision-complete l) ∙ ap is_some (deciding_prefix-nil (decision l) (decision-nil l positive))

-- a complete metric stays as it is
pub phase_of_marks-push_complete : (l : Limits) (marks : List Mark) (m : Mark)
    → is_complete (phase_of_marks l marks) ≡ true
    → phase_of_marks l (marks ++ m ∷ []) ≡ phase_of_marks l marks
unfolding phase_of_marks
phase_of_marks-push_complete l marks m h = phase_by-push_complete (decision l) marks m (decision-complete l) h

-- an open one is decided by all of its marks
pub phase_of_marks-push_open : (l : Limits) (marks : List Mark) (m : Mark)
    → is_complete (phase_of_marks l marks) ≡ false
    → phase_of_marks l (marks ++ m ∷ []) ≡ phase_by_counts l (with_mark (counts_of marks) m)
unfolding phase_of_marks decision
phase_of_marks-push_open l marks m h =
    let none = none_of (deciding_prefix (decision l) marks) (sym (is_complete-phase_by (decision l) marks (decision-complete l)) ∙ h) in
    phase_by-push_open (decision l) marks m none ∙ ap (phase_by_counts l) (counts_of-push marks m)

-- ---- The marks that aren't late

is_late-open : (limits : List Limits) (events : List Event) (e : Event) → closing_prefix limits events ≡ None
    → is_late limits events e ≡ metric_was_complete limits events e
unfolding is_late
is_late-open limits events e h = rw h refl

pub is_late-closed : (limits : List Limits) (events prefix : List Event) (e : Event)
    → closing_prefix limits events ≡ Some prefix → is_late limits events e ≡ true
unfolding is_late
is_late-closed limits events prefix e h = rw h refl

was_complete : (limits : List Limits) (events : List Event) (i : ℕ) (m : Mark) (l : Limits)
    → slice_get limits i ≡ Some l
    → metric_was_complete limits events (event.Mark i m) ≡ is_complete (phase_of_marks l (marks_of i events))
was_complete limits events i m l at = rw (phases_by_marks-get limits events i l at) refl

-- no mark of an open metric of an open run is late
abbrev NoneLate : List Limits → ℕ → Limits → List Event → Type 0
NoneLate limits i l events = closing_prefix limits events ≡ None → is_complete (phase_of_marks l (marks_of i events)) ≡ false → marks_of i (timely limits events) ≡ marks_of i events

was_open : (limits : List Limits) (events : List Event) (e : Event)
    → closing_prefix limits (events ++ e ∷ []) ≡ None → closing_prefix limits events ≡ None
was_open limits events e none = option_or-none _ _ (sym (closing_prefix-push limits events e) ∙ none)

none_late-nil : (limits : List Limits) (i : ℕ) (l : Limits) → NoneLate limits i l []
unfolding timely with_earlier
none_late-nil limits i l none incomplete = refl

none_late-other : (limits : List Limits) (i : ℕ) (l : Limits) (events : List Event) (e : Event)
    → mark_of i e ≡ None → NoneLate limits i l events → NoneLate limits i l (events ++ e ∷ [])
none_late-other limits i l events e apart ih none incomplete =
    let same = marks_of-push_other i events e apart in
    let before = ih (was_open limits events e none) (rw same at incomplete) in
    elim (cases_Bool (is_late limits events e)) [
      | inl late ↦ rw (timely-push_late limits events e late, same) before
      | inr applied ↦ rw (timely-push_applied limits events e applied, marks_of-push_other i (timely limits events) e apart, same) before
    ]

none_late-own : (limits : List Limits) (i : ℕ) (l : Limits) → slice_get limits i ≡ Some l
    → (events : List Event) (m : Mark) → NoneLate limits i l events
    → NoneLate limits i l (events ++ event.Mark i m ∷ [])
none_late-own limits i l at events m ih none incomplete =
    let more = λ (es : List Event). marks_of-push_mark i es (event.Mark i m) m (mark_of-own i m) in
    let now : is_complete (phase_of_marks l (marks_of i events ++ m ∷ [])) ≡ false = rw (more events) at incomplete in
    let run = was_open limits events (event.Mark i m) none in
    elim (cases_Bool (is_complete (phase_of_marks l (marks_of i events)))) [
      | inl complete ↦ absurd (false≢true (sym now ∙ ap is_complete (phase_of_marks-push_complete l (marks_of i events) m complete) ∙ complete))
      | inr before ↦
          let applied : is_late limits events (event.Mark i m) ≡ false = is_late-open limits events (event.Mark i m) run ∙ was_complete limits events i m l at ∙ before in
          rw (timely-push_applied limits events (event.Mark i m) applied, more (timely limits events), more events, ih run before) refl
    ]

none_late-push : (limits : List Limits) (i : ℕ) (l : Limits) → slice_get limits i ≡ Some l
    → (events : List Event) (e : Event) → NoneLate limits i l events → NoneLate limits i l (events ++ e ∷ [])
none_late-push limits i l at events event.Stop ih = none_late-other limits i l events event.Stop refl ih
none_late-push limits i l at events (event.Mark j m) ih =
    elim (cases_eq i j) [
      | inl same ↦ subst (λ (k : ℕ). NoneLate limits i l (events ++ event.Mark k m ∷ [])) same (none_late-own limits i l at events m ih)
      | inr apart ↦ none_late-other limits i l events (event.Mark j m) (mark_of-other j i m apart) ih
    ]

pub marks_of-timely : (limits : List Limits) (i : ℕ) (l : Limits) → slice_get limits i ≡ Some l
    → (events : List Event) → NoneLate limits i l events
marks_of-timely limits i l at events = push_induction (NoneLate limits i l) (none_late-nil limits i l) (none_late-push limits i l at) events

-- ---- The counts

metric_counts-same : (limits : List Limits) (events : List Event) (e : Event) → is_late limits events e ≡ true
    → metric_counts limits (events ++ e ∷ []) ≡ metric_counts limits events
unfolding metric_counts
metric_counts-same limits events e late = rw (timely-push_late limits events e late) refl

metric_counts-stop : (limits : List Limits) (events : List Event) → is_late limits events event.Stop ≡ false
    → metric_counts limits (events ++ event.Stop ∷ []) ≡ metric_counts limits events
unfolding metric_counts
metric_counts-stop limits events applied =
    numbered_same _ _ limits (λ i l at. rw (timely-push_applied limits events event.Stop applied, marks_of-push_other i (timely limits events) event.Stop refl) refl)

metric_counts-get : (limits : List Limits) (events : List Event) (i : ℕ) (l : Limits)
    → slice_get limits i ≡ Some l
    → slice_get (metric_counts limits events) i ≡ Some (counts_of (marks_of i (timely limits events)))
unfolding metric_counts
metric_counts-get limits events i l at = numbered_get (λ (x : ℕ × Limits). counts_of (marks_of x.0 (timely limits events))) limits i l at

metric_counts-mark : (limits : List Limits) (events : List Event) (i : ℕ) (l : Limits) (m : Mark)
    → slice_get limits i ≡ Some l → is_late limits events (event.Mark i m) ≡ false
    → metric_counts limits (events ++ event.Mark i m ∷ []) ≡ set (metric_counts limits events) i (with_mark (counts_of (marks_of i (timely limits events))) m)
unfolding metric_counts
metric_counts-mark limits events i l m at applied =
    let before = timely limits events in
    let f = λ (x : ℕ × Limits). counts_of (marks_of x.0 before) in
    let g = λ (x : ℕ × Limits). counts_of (marks_of x.0 (before ++ event.Mark i m ∷ [])) in
    let value : g (i, l) ≡ with_mark (counts_of (marks_of i before)) m = ap counts_of (marks_of-push_mark i before (event.Mark i m) m (mark_of-own i m)) ∙ counts_of-push (marks_of i before) m in
    rw (timely-push_applied limits events (event.Mark i m) applied)
    (numbered_set f g limits i l at (λ j k e other. ap counts_of (marks_of-push_other j before (event.Mark i m) (mark_of-other i j m other)))
    ∙ ap (λ c. set (map f (enumerate_from 0 limits)) i c) value)

-- ---- One event more

same_standing : {limits : List Limits} {phases phases' : List Phase} {counts counts' : List Counts} {p p' : Phase} {handed : ℕ}
    → phases ≡ phases' → counts ≡ counts' → p ≡ p'
    → (let s : Standing = record { limits = limits; phases = phases; counts = counts; phase = p; handed = handed } in s) ≡ record { limits = limits; phases = phases'; counts = counts'; phase = p'; handed = handed }
same_standing a b c = rw (a, b, c) refl

-- the step agrees with the definition
pub record Agrees (limits : List Limits) (events : List Event) (e : Event) (handed : ℕ) : Type 0 where
  pub is_there : next (standing_after limits events handed) e ≡ standing_after limits (events ++ e ∷ []) handed
  pub answers : answer (standing_after limits events handed) e ≡ effect_of limits events e

-- a late event that changes nothing
agrees_late : (limits : List Limits) (events : List Event) (e : Event) (handed : ℕ)
    → comes_late (standing_after limits events handed) e ≡ true → is_late limits events e ≡ true
    → standing_after limits events handed ≡ standing_after limits (events ++ e ∷ []) handed
    → Agrees limits events e handed
unfolding next answer effect_of
agrees_late limits events e handed comes late same = record { is_there = rw comes same; answers = rw (comes, late) refl }

-- a closed run keeps its state
pub stays_closed : (limits : List Limits) (events prefix : List Event) (e : Event) (handed : ℕ)
    → closing_prefix limits events ≡ Some prefix
    → standing_after limits events handed ≡ standing_after limits (events ++ e ∷ []) handed
stays_closed limits events prefix e handed found =
    let complete : is_complete (run_phase limits events) ≡ true = is_complete-run_phase limits events ∙ ap is_some found in
    let kept : closing_prefix limits (events ++ e ∷ []) ≡ Some prefix = rw (closing_prefix-push limits events e, found) refl in
    same_standing (metric_phases-closed limits events prefix found ∙ sym (metric_phases-closed limits (events ++ e ∷ []) prefix kept))
    (sym (metric_counts-same limits events e (is_late-closed limits events prefix e found))) (sym (run_phase-push_closed limits events e complete))

comes_late-closed : (limits : List Limits) (events : List Event) (e : Event) (handed : ℕ)
    → is_complete (run_phase limits events) ≡ true → comes_late (standing_after limits events handed) e ≡ true
comes_late-closed limits events event.Stop handed complete = complete
comes_late-closed limits events (event.Mark i m) handed complete = rw complete refl

-- the run is closed
agrees_closed : (limits : List Limits) (events prefix : List Event) (e : Event) (handed : ℕ)
    → closing_prefix limits events ≡ Some prefix → Agrees limits events e handed
agrees_closed limits events prefix e handed found =
    agrees_late limits events e handed (comes_late-closed limits events e handed (is_complete-run_phase limits events ∙ ap is_some found)) (is_late-closed limits events prefix e found)
    (stays_closed limits events prefix e handed found)

-- the state of the run after an event that isn't late, before it is closed
abbrev marked_after : List Limits → List Event → Event → ℕ → Standing
marked_after limits events e handed = record {
  limits = limits;
  phases = phases_by_marks limits (events ++ e ∷ []);
  counts = metric_counts limits (events ++ e ∷ []);
  phase = run_phase limits events;
  handed = handed;
}

-- an event that isn't late, by how it closes the run
agrees_applied : (limits : List Limits) (events : List Event) (e : Event) (handed : ℕ)
    → closing_prefix limits events ≡ None → comes_late (standing_after limits events handed) e ≡ false
    → is_late limits events e ≡ false
    → with_event (standing_after limits events handed) e ≡ marked_after limits events e handed
    → closing_now (standing_after limits events handed) e ≡ closing limits (events ++ e ∷ [])
    → Agrees limits events e handed
unfolding next answer effect_of
agrees_applied limits events e handed none comes late marked now =
    let prefix = closing_prefix-push limits events e in
    let phase_now = run_phase-push_open limits events e none in
    elim (option_cases (closing limits (events ++ e ∷ []))) [
      | inl undecided ↦
          let still : closing_prefix limits (events ++ e ∷ []) ≡ None = rw (prefix, none, undecided) refl in
          record {
            is_there = rw (comes, now, undecided, marked) (same_standing (sym (metric_phases-open limits (events ++ e ∷ []) still)) refl (sym (phase_now ∙ ap (λ o. unwrap_or o phase.Running) undecided)));
            answers = rw (comes, late, now) refl;
          }
      | inr decided ↦
          let whole : closing_prefix limits (events ++ e ∷ []) ≡ Some (events ++ e ∷ []) = rw (prefix, none, decided.1) refl in
          record {
            is_there = rw (comes, now, decided.1, marked) (same_standing (sym (metric_phases-closed limits (events ++ e ∷ []) (events ++ e ∷ []) whole)) refl (sym (phase_now ∙ ap (λ o. unwrap_or o phase.Running) decided.1)));
            answers = rw (comes, late, now) refl;
          }
    ]

-- a stop of an open run
agrees_stop : (limits : List Limits) (events : List Event) (handed : ℕ) → closing_prefix limits events ≡ None
    → Agrees limits events event.Stop handed
agrees_stop limits events handed none =
    let incomplete : is_complete (run_phase limits events) ≡ false = is_complete-run_phase limits events ∙ ap is_some none in
    let late = is_late-open limits events event.Stop none in
    agrees_applied limits events event.Stop handed none incomplete late
    (same_standing (metric_phases-open limits events none ∙ sym (phases_by_marks-push_stop limits events)) (sym (metric_counts-stop limits events late)) refl)
    (sym (closing-push limits events event.Stop))

-- a mark of an open metric of an open run
agrees_open : (limits : List Limits) (events : List Event) (i : ℕ) (l : Limits) (m : Mark) (handed : ℕ)
    → closing_prefix limits events ≡ None → slice_get limits i ≡ Some l
    → is_complete (phase_of_marks l (marks_of i events)) ≡ false
    → Agrees limits events (event.Mark i m) handed
agrees_open limits events i l m handed none at incomplete =
    let open_run : is_complete (run_phase limits events) ≡ false = is_complete-run_phase limits events ∙ ap is_some none in
    let late : is_late limits events (event.Mark i m) ≡ false = is_late-open limits events (event.Mark i m) none ∙ was_complete limits events i m l at ∙ incomplete in
    let phases = metric_phases-open limits events none in
    let comes : comes_late (standing_after limits events handed) (event.Mark i m) ≡ false = rw (open_run, phases, phases_by_marks-get limits events i l at) incomplete in
    let own_limits = get_or_from_slice_get limits i l no_limits at in
    let own_counts = get_or_from_slice_get (metric_counts limits events) i (counts_of (marks_of i (timely limits events))) no_counts (metric_counts-get limits events i l at) in
    let all_timely = marks_of-timely limits i l at events none incomplete in
    let new_phases : set (metric_phases limits events) i (phase_by_counts (get_or limits i no_limits) (with_mark (get_or (metric_counts limits events) i no_counts) m)) ≡ phases_by_marks limits (events ++ event.Mark i m ∷ []) =
    rw (phases, own_limits, own_counts, all_timely) (ap (set (phases_by_marks limits events) i) (sym (phase_of_marks-push_open l (marks_of i events) m incomplete)) ∙ sym (phases_by_marks-push_mark limits events i l m at)) in
    let new_counts : set (metric_counts limits events) i (with_mark (get_or (metric_counts limits events) i no_counts) m) ≡ metric_counts limits (events ++ event.Mark i m ∷ []) =
    rw own_counts (sym (metric_counts-mark limits events i l m at late)) in
    agrees_applied limits events (event.Mark i m) handed none comes late (same_standing new_phases new_counts refl)
    (ap (λ phases. closed_by_metrics (phases_for_run limits phases)) new_phases ∙ sym (closing-push limits events (event.Mark i m)))

-- metrics that did not close the run before, in the same phases
still_open : (limits : List Limits) (x : Event) (rest : List Event) → closing limits (x ∷ rest) ≡ None
    → closed_by_metrics (phases_for_run limits (phases_by_marks limits (x ∷ rest))) ≡ None
unfolding closing
still_open limits x rest h = from (ends_with_stop (x ∷ rest)) h where
  from : (b : Bool)
      → cond b (Some phase.Successful) (closed_by_metrics (phases_for_run limits (phases_by_marks limits (x ∷ rest)))) ≡ None
      → closed_by_metrics (phases_for_run limits (phases_by_marks limits (x ∷ rest))) ≡ None
  from true e = cc
  from false e = e

pub whole_open : (limits : List Limits) (events : List Event) → closing_prefix limits events ≡ None
    → closing limits events ≡ None
unfolding closing_prefix
whole_open limits events none = deciding_prefix-whole (closing limits) events none

pub no_marks : (i : ℕ) → marks_of i [] ≡ []
unfolding marks_of
no_marks i = refl

-- a mark of a complete metric of an open run
agrees_complete : (limits : List Limits) (events : List Event) (i : ℕ) (l : Limits) (m : Mark) (handed : ℕ)
    → HasPositiveCounts limits → closing_prefix limits events ≡ None → slice_get limits i ≡ Some l
    → is_complete (phase_of_marks l (marks_of i events)) ≡ true → Agrees limits events (event.Mark i m) handed
agrees_complete limits [] i l m handed positive none at complete =
    let own : IfSome l.count (λ count. 1 ≤ count) = rw (get_or_from_slice_get limits i l l at) at (positive i l (slice_get_within limits i l at)) in
    absurd (false≢true (sym (is_complete-phase_of_marks-nil l own) ∙ (rw (no_marks i) at complete)))
agrees_complete limits (x ∷ rest) i l m handed positive none at complete =
    let events = x ∷ rest in
    let e = event.Mark i m in
    let open_run : is_complete (run_phase limits events) ≡ false = is_complete-run_phase limits events ∙ ap is_some none in
    let late : is_late limits events e ≡ true = is_late-open limits events e none ∙ was_complete limits events i m l at ∙ complete in
    let phases = metric_phases-open limits events none in
    let comes : comes_late (standing_after limits events handed) e ≡ true = rw (open_run, phases, phases_by_marks-get limits events i l at) complete in
    let own = get_or_from_slice_get (phases_by_marks limits events) i (phase_of_marks l (marks_of i events)) phase.Pending (phases_by_marks-get limits events i l at) in
    let same : phases_by_marks limits (events ++ e ∷ []) ≡ phases_by_marks limits events =
    phases_by_marks-push_mark limits events i l m at
    ∙ ap (set (phases_by_marks limits events) i) (phase_of_marks-push_complete l (marks_of i events) m complete ∙ sym own)
    ∙ set-get_or (phases_by_marks limits events) i phase.Pending in
    let undecided : closing limits (events ++ e ∷ []) ≡ None = closing-push limits events e ∙ ap (λ phases. closed_by_metrics (phases_for_run limits phases)) same ∙ still_open limits x rest (whole_open limits events none) in
    let still : closing_prefix limits (events ++ e ∷ []) ≡ None = rw (closing_prefix-push limits events e, none, undecided) refl in
    agrees_late limits events e handed comes late
    (same_standing (phases ∙ sym same ∙ sym (metric_phases-open limits (events ++ e ∷ []) still)) (sym (metric_counts-same limits events e late))
    (run_phase-open limits events none ∙ sym (run_phase-push_open limits events e none ∙ ap (λ o. unwrap_or o phase.Running) undecided)))

pub agrees : (limits : List Limits) (events : List Event) (e : Event) (handed : ℕ) → HasPositiveCounts limits
    → IsOfMetricBelow (length limits) e → Agrees limits events e handed
agrees limits events e handed positive there =
    elim (option_cases (closing_prefix limits events)) [
      | inl none ↦ open_run e there none
      | inr found ↦ agrees_closed limits events found.0 e handed found.1
    ]
  where
    open_run : (e : Event) → IsOfMetricBelow (length limits) e → closing_prefix limits events ≡ None
        → Agrees limits events e handed
    open_run event.Stop there none = agrees_stop limits events handed none
    open_run (event.Mark i m) there none =
        let l = get_or limits i no_limits in
        let at : slice_get limits i ≡ Some l = slice_get-get_or limits i no_limits there in
        elim (cases_Bool (is_complete (phase_of_marks l (marks_of i events)))) [
          | inl complete ↦ agrees_complete limits events i l m handed positive none at complete
          | inr incomplete ↦ agrees_open limits events i l m handed none at incomplete
        ]
