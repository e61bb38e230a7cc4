-- Dry metrics decide nothing.
use Rattle.std.proofs.Common.{◌≡◌, ◌≢◌, ℕ, ◌+◌, ◌<◌, ◌≤◌, zero, suc, Bool, true, false, cond, ◌&&◌, ◌||◌, ◌⊎◌, Option, Some, None, option_map, is_some, unwrap_or, List, [], ◌∷◌, ◌++◌, map, find, length, take, refl, ap, ◌∙◌, sym, arith, inl, inr, IfSome, get_or, All}
use Rattle.std.specs.Prelude.{slice_get}
use Rattle.std.specs.Option.{option_map_or}
use Rattle.std.specs.List.{list_any, list_all, enumerate_from, cons_option, filter_map}
use Rattle.std.proofs.lemmas.List.{take_more, take_all}
use Rattle.std.proofs.lemmas.List.Elements.{filter_map-append}
use Rattle.std.proofs.lemmas.Bool.{cases_eq, cases_Bool, false≢true}
use Rattle.std.proofs.lemmas.Option.{get_or_from_slice_get, slice_get-get_or, slice_get-map, slice_get_within}
use Rattle.ar_limits.specs.declared.event.Event.{Event}
use Rattle.ar_limits.specs.declared.event.Event.TheVariants as event
use Rattle.ar_limits.specs.declared.event.Effect.TheVariants as effect
use Rattle.ar_limits.specs.declared.event.Mark.{Mark}
use Rattle.ar_limits.specs.declared.limits.Limits.{Limits}
use Rattle.ar_limits.specs.declared.phase.Phase.{Phase}
use Rattle.ar_limits.specs.declared.phase.Phase.TheVariants as phase
use Rattle.ar_limits.specs.Metric.{phase_of_marks, is_complete, is_unsuccessful, succeeded, HasPositiveCounts}
use Rattle.ar_limits.specs.Run.{mark_of, marks_of, phases_by_marks, is_stop, ends_with_stop, closed_by_metrics, phase_for_run, phases_for_run, closing, closing_prefix, run_phase, metric_was_complete, is_late, effect_of, effects}
use Rattle.ar_limits.specs.Laws.{HasUnsuccessful, AllLeaveToSucceed, ClosesAs, WithoutDryMetrics, AreOneButDry, AreAsComplete, DifferInDryMarks, DryMarksDecideNothing, DryMarksCloseWithSuccess, AllDrySucceeds}
use Rattle.ar_limits.proofs.PrefixLemmas.{none_of, option_cases}
use Rattle.ar_limits.proofs.NumberedLemmas.{numbered_same}
use Rattle.ar_limits.proofs.RunLemmas.{effects-push, ends_with_stop-push, mark_of-other, phases_by_marks-get, closing-push, is_complete-run_phase, run_phase-push_closed, run_phase-push_open}
use Rattle.ar_limits.proofs.OnePhaseLemmas.{numbered_for_run, for_run_is, for_run_decides, closed_for_a_reason, closing_of_reason, metric_before, reason_of_closing}
use Rattle.ar_limits.proofs.StepLemmas.{is_late-closed, whole_open}

-- ---- Without dry metrics

for_run-plain : (limits : List Limits) (events : List Event) → All (λ own. own.dry ≡ false) limits
    → phases_for_run limits (phases_by_marks limits events) ≡ phases_by_marks limits events
unfolding phases_by_marks
for_run-plain limits events plain =
    for_run_is limits events
    ∙ numbered_same (λ (x : ℕ × Limits). phase_of_marks x.1 (marks_of x.0 events)) (numbered_for_run events) limits
    (λ i own at. for_run_decides own _ (rw (get_or_from_slice_get limits i own own at) at (plain i own (slice_get_within limits i own at))))

pub without_dry_metrics : WithoutDryMetrics
unfolding closing
without_dry_metrics limits [] plain filled stop = absurd (filled refl)
without_dry_metrics limits (first ∷ rest) plain filled stop = rw (stop, for_run-plain limits (first ∷ rest) plain) refl

-- ---- Phases that close alike

-- the phases are one, or both are open
abbrev AreAlike : Phase → Phase → Type 0
AreAlike p q = (p ≡ q) ⊎ ((is_complete p ≡ false) × (is_complete q ≡ false))

abbrev CloseAlike : (phases others : List Phase) → Type 0
CloseAlike phases others =
    (list_any is_unsuccessful phases ≡ list_any is_unsuccessful others)
    × (find is_unsuccessful phases ≡ find is_unsuccessful others)
    × (list_all succeeded phases ≡ list_all succeeded others)

open_decides_nothing : (p : Phase) → is_complete p ≡ false → (is_unsuccessful p ≡ false) × (succeeded p ≡ false)
open_decides_nothing phase.Pending h = (refl, refl)
open_decides_nothing phase.Running h = (refl, refl)
open_decides_nothing phase.Successful h = cc
open_decides_nothing phase.Failed h = cc
open_decides_nothing phase.Error h = cc
open_decides_nothing phase.Inconclusive h = cc

close_alike-cons : (p q : Phase) (phases others : List Phase) → AreAlike p q → CloseAlike phases others → CloseAlike (p ∷ phases) (q ∷ others)
close_alike-cons p q phases others (inl same) rest = rw (same, rest.0, rest.1, rest.2) (refl, refl, refl)
close_alike-cons p q phases others (inr apart) rest =
    let first = open_decides_nothing p apart.0 in
    let second = open_decides_nothing q apart.1 in
    rw (first.0, first.1, second.0, second.1) (rest.0, rest.1, refl)

close_alike : (f g : ℕ × Limits → Phase) (n : ℕ) (limits : List Limits)
    → ((i : ℕ) (own : Limits) → slice_get limits i ≡ Some own → AreAlike (f (n + i, own)) (g (n + i, own)))
    → CloseAlike (map f (enumerate_from n limits)) (map g (enumerate_from n limits))
close_alike f g n [] alike = (refl, refl, refl)
close_alike f g n (own ∷ limits) alike =
    let here : n + 0 ≡ n = omega arith in
    close_alike-cons (f (n, own)) (g (n, own)) (map f (enumerate_from (n + 1) limits)) (map g (enumerate_from (n + 1) limits)) (rw here at (alike 0 own refl))
    (close_alike f g (n + 1) limits (λ i l at. let moved : n + 1 + i ≡ n + suc i = omega arith in rw moved (alike (suc i) l at)))

closed_alike : (phases others : List Phase) → CloseAlike phases others → closed_by_metrics phases ≡ closed_by_metrics others
closed_alike phases others alike = rw (alike.0, alike.1, alike.2) refl

-- dry metrics that are as complete count alike
for_run_alike : (dry : Bool) (p q : Phase) → dry ≡ true → is_complete p ≡ is_complete q
    → AreAlike (cond (is_complete p && dry) phase.Successful p) (cond (is_complete q && dry) phase.Successful q)
for_run_alike false p q h same = absurd (false≢true h)
for_run_alike true p q h same =
    elim (cases_Bool (is_complete p)) [
      | inl complete ↦ rw (complete, sym same ∙ complete) (inl refl)
      | inr incomplete ↦ rw (incomplete, sym same ∙ incomplete) (inr (incomplete, sym same ∙ incomplete))
    ]

-- ---- The marks of the metrics that aren't dry

marks_of-more : (i : ℕ) (events : List Event) (e : Event) → marks_of i (events ++ e ∷ []) ≡ marks_of i events ++ cons_option (mark_of i e) []
unfolding marks_of
marks_of-more i events e = filter_map-append (mark_of i) events (e ∷ [])

mark_same : (limits : List Limits) (i : ℕ) (own : Limits) (e e' : Event) → slice_get limits i ≡ Some own → own.dry ≡ false
    → AreOneButDry limits e e' → mark_of i e ≡ mark_of i e'
mark_same limits i own event.Stop event.Stop at decides one = refl
mark_same limits i own event.Stop (event.Mark j m) at decides one = cc
mark_same limits i own (event.Mark j m) event.Stop at decides one = cc
mark_same limits i own (event.Mark j m) (event.Mark j' m') at decides (same, inl mark) = rw (same, mark) refl
mark_same limits i own (event.Mark j m) (event.Mark j' m') at decides (same, inr dry) =
    elim (cases_eq j i) [
      | inl here ↦ absurd (false≢true (sym decides ∙ (rw (here, at) at dry)))
      | inr apart ↦ mark_of-other j i m (λ e. apart (sym e)) ∙ sym (mark_of-other j' i m' (λ e. apart (same ∙ sym e)))
    ]

module _ (limits : List Limits) (events events' : List Event) (differ : DifferInDryMarks limits events events') where
  -- one event more of both
  one_more : (k : ℕ) → k < length events → (e : Event) × (e' : Event)
      × (take (k + 1) events ≡ take k events ++ e ∷ []) × (take (k + 1) events' ≡ take k events' ++ e' ∷ []) × AreOneButDry limits e e'
  one_more k within =
      let e = get_or events k event.Stop in
      let e' = get_or events' k event.Stop in
      let within' : k < length events' = omega (arith, differ.long) in (
        e,
        e',
        take_more events k event.Stop within,
        take_more events' k event.Stop within',
        differ.each k e e' (slice_get-get_or events k event.Stop within) (slice_get-get_or events' k event.Stop within'),
      )

  marks_same : (i : ℕ) (own : Limits) → slice_get limits i ≡ Some own → own.dry ≡ false
      → (k : ℕ) → k ≤ length events → marks_of i (take k events) ≡ marks_of i (take k events')
  marks_same i own at decides zero within = refl
  marks_same i own at decides (suc k) within =
      let more = one_more k (omega arith) in
      let on : suc k ≡ k + 1 = omega arith in
      rw (on, more.2, more.3, marks_of-more i (take k events) more.0, marks_of-more i (take k events') more.1, marks_same i own at decides k (omega arith), mark_same limits i own more.0 more.1 at decides more.4) refl

  alike_at : (k : ℕ) → k ≤ length events → (i : ℕ) (own : Limits) → slice_get limits i ≡ Some own
      → AreAlike (numbered_for_run (take k events) (i, own)) (numbered_for_run (take k events') (i, own))
  alike_at k within i own at =
      elim (cases_Bool own.dry) [
        | inl dry ↦ if_dry dry
        | inr decides ↦ inl (ap (λ marks. phase_for_run own (phase_of_marks own marks)) (marks_same i own at decides k within))
      ]
    where
      as_complete : (p p' : Phase) → slice_get (phases_by_marks limits (take k events)) i ≡ Some p → slice_get (phases_by_marks limits (take k events')) i ≡ Some p'
          → is_complete p ≡ is_complete p'
      as_complete p p' is is' =
          let both : Some (is_complete p) ≡ Some (is_complete p') =
          sym (slice_get-map is_complete (phases_by_marks limits (take k events)) i ∙ ap (option_map is_complete) is)
          ∙ ap (λ all. slice_get all i) (differ.complete k)
          ∙ slice_get-map is_complete (phases_by_marks limits (take k events')) i ∙ ap (option_map is_complete) is' in
          cc

      if_dry : own.dry ≡ true → AreAlike (numbered_for_run (take k events) (i, own)) (numbered_for_run (take k events') (i, own))
      if_dry dry =
          let p = phase_of_marks own (marks_of i (take k events)) in
          let p' = phase_of_marks own (marks_of i (take k events')) in
          let same = as_complete p p' (phases_by_marks-get limits (take k events) i own at) (phases_by_marks-get limits (take k events') i own at) in
          for_run_alike own.dry p p' dry same

  closed_same : (k : ℕ) → k ≤ length events
      → closed_by_metrics (phases_for_run limits (phases_by_marks limits (take k events))) ≡ closed_by_metrics (phases_for_run limits (phases_by_marks limits (take k events')))
  closed_same k within =
      rw (for_run_is limits (take k events), for_run_is limits (take k events'))
      (closed_alike (map (numbered_for_run (take k events)) (enumerate_from 0 limits)) (map (numbered_for_run (take k events')) (enumerate_from 0 limits)) (close_alike (numbered_for_run (take k events)) (numbered_for_run (take k events')) 0 limits (λ i own at. let here : 0 + i ≡ i = omega arith in rw here (alike_at k within i own at))))

  closing_same : (k : ℕ) → k < length events → closing limits (take (k + 1) events) ≡ closing limits (take (k + 1) events')
  closing_same k within =
      let more = one_more k within in
      let metrics = closed_same (k + 1) (omega arith) in
      rw (more.2, more.3, closing-push limits (take k events) more.0, closing-push limits (take k events') more.1, stop_same more.0 more.1 more.4)
      (ap (λ closed. cond (is_stop more.1) (Some phase.Successful) closed) (rw (more.2, more.3) at metrics))
    where
      stop_same : (e e' : Event) → AreOneButDry limits e e' → is_stop e ≡ is_stop e'
      stop_same event.Stop event.Stop one = refl
      stop_same event.Stop (event.Mark j m) one = cc
      stop_same (event.Mark j m) event.Stop one = cc
      stop_same (event.Mark j m) (event.Mark j' m') one = refl

  phase_same : (k : ℕ) → k ≤ length events → run_phase limits (take k events) ≡ run_phase limits (take k events')
  phase_same zero within = refl
  phase_same (suc k) within =
      let below : k < length events = omega arith in
      let before = phase_same k (omega arith) in
      let more = one_more k below in
      let on : suc k ≡ k + 1 = omega arith in
      let now = rw (more.2, more.3) at (closing_same k below) in
      rw (on, more.2, more.3) (at before (is_complete (run_phase limits (take k events))) refl more.0 more.1 now)
    where
      at : run_phase limits (take k events) ≡ run_phase limits (take k events') → (b : Bool) → is_complete (run_phase limits (take k events)) ≡ b → (e e' : Event)
          → closing limits (take k events ++ e ∷ []) ≡ closing limits (take k events' ++ e' ∷ [])
          → run_phase limits (take k events ++ e ∷ []) ≡ run_phase limits (take k events' ++ e' ∷ [])
      at same true complete e e' now =
          run_phase-push_closed limits (take k events) e complete ∙ same ∙ sym (run_phase-push_closed limits (take k events') e' (ap is_complete (sym same) ∙ complete))
      at same false open_yet e e' now =
          let none = none_of (closing_prefix limits (take k events)) (sym (is_complete-run_phase limits (take k events)) ∙ open_yet) in
          let none' = none_of (closing_prefix limits (take k events')) (sym (is_complete-run_phase limits (take k events')) ∙ ap is_complete (sym same) ∙ open_yet) in
          run_phase-push_open limits (take k events) e none ∙ ap (λ closed. unwrap_or closed phase.Running) now ∙ sym (run_phase-push_open limits (take k events') e' none')

  -- what each event does is the same
  complete_same : (k j : ℕ) → option_map_or is_complete (slice_get (phases_by_marks limits (take k events)) j) false ≡ option_map_or is_complete (slice_get (phases_by_marks limits (take k events')) j) false
  complete_same k j =
      reported (slice_get (phases_by_marks limits (take k events)) j)
      ∙ ap (λ known. unwrap_or known false) (sym (slice_get-map is_complete (phases_by_marks limits (take k events)) j) ∙ ap (λ all. slice_get all j) (differ.complete k) ∙ slice_get-map is_complete (phases_by_marks limits (take k events')) j)
      ∙ sym (reported (slice_get (phases_by_marks limits (take k events')) j))
    where
      reported : (found : Option Phase) → option_map_or is_complete found false ≡ unwrap_or (option_map is_complete found) false
      reported None = refl
      reported (Some q) = refl

  was_complete_same : (k : ℕ) (e e' : Event) → AreOneButDry limits e e' → metric_was_complete limits (take k events) e ≡ metric_was_complete limits (take k events') e'
  was_complete_same k event.Stop event.Stop one = refl
  was_complete_same k event.Stop (event.Mark j m) one = cc
  was_complete_same k (event.Mark j m) event.Stop one = cc
  was_complete_same k (event.Mark j m) (event.Mark j' m') one = complete_same k j ∙ ap (λ j. option_map_or is_complete (slice_get (phases_by_marks limits (take k events')) j) false) one.0

  late_same : (k : ℕ) → k ≤ length events → (e e' : Event) → AreOneButDry limits e e' → is_late limits (take k events) e ≡ is_late limits (take k events') e'
  unfolding is_late
  late_same k within e e' one =
      let closed = sym (is_complete-run_phase limits (take k events)) ∙ ap is_complete (phase_same k within) ∙ is_complete-run_phase limits (take k events') in
      rw (closed, was_complete_same k e e' one) refl

  effect_same : (k : ℕ) → k < length events → (e e' : Event) → AreOneButDry limits e e'
      → closing limits (take k events ++ e ∷ []) ≡ closing limits (take k events' ++ e' ∷ []) → effect_of limits (take k events) e ≡ effect_of limits (take k events') e'
  unfolding effect_of
  effect_same k within e e' one closing = rw (late_same k (omega arith) e e' one, closing) refl

  effects_same : (k : ℕ) → k ≤ length events → effects limits (take k events) ≡ effects limits (take k events')
  effects_same zero within = refl
  effects_same (suc k) within =
      let below : k < length events = omega arith in
      let more = one_more k below in
      let on : suc k ≡ k + 1 = omega arith in
      let now = rw (more.2, more.3) at (closing_same k below) in
      rw (on, more.2, more.3, effects-push limits (take k events) more.0, effects-push limits (take k events') more.1, effects_same k (omega arith), effect_same k below more.0 more.1 more.4 now) refl

pub dry_marks_decide_nothing : DryMarksDecideNothing
dry_marks_decide_nothing limits events events' differ =
    let all = take_all (length events) events (omega arith) in
    let all' = take_all (length events) events' (omega (arith, differ.long)) in (
      ap (run_phase limits) (sym all) ∙ phase_same limits events events' differ (length events) (omega arith) ∙ ap (run_phase limits) all',
      ap (effects limits) (sym all) ∙ effects_same limits events events' differ (length events) (omega arith) ∙ ap (effects limits) all',
    )

-- ---- How dry metrics close a run

-- the events before had no metric without success
none_before : (limits : List Limits) (events : List Event) (e : Event) (q : Phase) → HasPositiveCounts limits → is_late limits events e ≡ false
    → HasUnsuccessful limits events q → ⊥
unfolding is_late
none_before limits events e q positive timely metric =
    elim (option_cases (closing_prefix limits events)) [
      | inl none ↦ false≢true (sym (ap is_some (whole_open limits events none)) ∙ closing_of_reason limits events q positive (inr (inl metric)))
      | inr found ↦ false≢true (sym timely ∙ is_late-closed limits events found.0 e found.1)
    ]

-- what closes is no metric without success, where the last mark is of a dry one
not_by_metric : (limits : List Limits) (events : List Event) (number : ℕ) (own : Limits) (m : Mark) (q : Phase) → HasPositiveCounts limits
    → slice_get limits number ≡ Some own → own.dry ≡ true → is_late limits events (event.Mark number m) ≡ false
    → HasUnsuccessful limits (events ++ event.Mark number m ∷ []) q → ⊥
not_by_metric limits events number own m q positive there dry timely metric =
    elim (cases_eq number metric.number) [
      | inl same ↦ false≢true (sym metric.decides ∙ (let one : metric.own ≡ own = cc (metric.there, there, same) in ap (λ (l : Limits). l.dry) one ∙ dry))
      | inr apart ↦ none_before limits events (event.Mark number m) q positive timely (metric_before limits events (event.Mark number m) q metric (mark_of-other number metric.number m (λ e. apart (sym e))))
    ]

closes_with_success : (limits : List Limits) (events : List Event) (number : ℕ) (own : Limits) (m : Mark) (q : Phase) → HasPositiveCounts limits
    → slice_get limits number ≡ Some own → own.dry ≡ true → is_late limits events (event.Mark number m) ≡ false
    → ClosesAs limits (events ++ event.Mark number m ∷ []) q → (q ≡ phase.Successful) × AllLeaveToSucceed limits (events ++ event.Mark number m ∷ [])
closes_with_success limits events number own m q positive there dry timely (inl stop) = absurd (false≢true (sym (ends_with_stop-push events (event.Mark number m)) ∙ stop.0))
closes_with_success limits events number own m q positive there dry timely (inr (inl metric)) = absurd (not_by_metric limits events number own m q positive there dry timely metric)
closes_with_success limits events number own m q positive there dry timely (inr (inr all)) = (all.2, all.1)

pub dry_marks_close_with_success : DryMarksCloseWithSuccess
unfolding effect_of
dry_marks_close_with_success limits events number own m q positive there dry closes =
    by_effect (is_late limits events (event.Mark number m)) (closing limits (events ++ event.Mark number m ∷ [])) refl refl closes
  where
    by_effect : (late : Bool) (closed : Option Phase) → is_late limits events (event.Mark number m) ≡ late → closing limits (events ++ event.Mark number m ∷ []) ≡ closed
        → cond late effect.Late (option_map_or effect.Closed closed effect.Applied) ≡ effect.Closed q
        → (q ≡ phase.Successful) × AllLeaveToSucceed limits (events ++ event.Mark number m ∷ [])
    by_effect true closed timely is e = cc
    by_effect false None timely is e = cc
    by_effect false (Some p) timely is e =
        let same : p ≡ q = cc in
        closes_with_success limits events number own m q positive there dry timely (reason_of_closing limits (events ++ event.Mark number m ∷ []) q (is ∙ ap (λ p. Some p) same))

pub all_dry_succeeds : AllDrySucceeds
all_dry_succeeds limits events positive dry complete = by_reason (closed_for_a_reason limits events positive complete).closes where
  by_reason : {prefix : List Event} {q : Phase} → ClosesAs limits prefix q → q ≡ phase.Successful
  by_reason (inl stop) = stop.1
  by_reason (inr (inl metric)) =
      let own : metric.own.dry ≡ true = rw (get_or_from_slice_get limits metric.number metric.own metric.own metric.there) at (dry metric.number metric.own (slice_get_within limits metric.number metric.own metric.there)) in
      absurd (false≢true (sym metric.decides ∙ own))
  by_reason (inr (inr all)) = all.2
