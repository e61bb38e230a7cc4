-- What one event more does to a run.
use Rattle.std.proofs.Common.{◌≡◌, ◌≢◌, ℕ, nat_eq, Bool, true, false, cond, Some, None, is_some, unwrap_or, List, [], ◌∷◌, ◌++◌, map, find, refl, ap, ◌∙◌, arith, append-nil}
use Rattle.std.proofs.Math.ListN.{set}
use Rattle.std.specs.Prelude.{slice_get, if◌then◌else◌}
use Rattle.std.specs.List.{list_any, list_all, filter_map, enumerate_from, cons_option}
use Rattle.std.specs.Option.{option_or}
use Rattle.std.proofs.lemmas.List.{map_push}
use Rattle.std.proofs.lemmas.List.Elements.{filter_map-append}
use Rattle.std.proofs.lemmas.Bool.Decides.{nat_tests}
use Rattle.ar_limits.specs.declared.event.Event.{Event}
use Rattle.ar_limits.specs.declared.event.Event.TheVariants as event
use Rattle.ar_limits.specs.declared.event.Mark.{Mark}
use Rattle.ar_limits.specs.declared.limits.Limits.{Limits}
use Rattle.ar_limits.specs.declared.phase.Phase.{Phase}
use Rattle.ar_limits.specs.declared.phase.Phase.TheVariants as phase
use Rattle.ar_limits.specs.Prefixes.{open_phase, with_earlier}
use Rattle.ar_limits.specs.Metric.{phase_of_marks, is_complete, is_unsuccessful, succeeded}
use Rattle.ar_limits.specs.Run.{mark_of, marks_of, phases_by_marks, is_stop, ends_with_stop, closed_by_metrics, phases_for_run, closing, closing_prefix, run_phase, settled, metric_phases, is_late, effect_of, effects, timely}
use Rattle.ar_limits.proofs.PrefixLemmas.{DecidesComplete, find-passes, phase_by-push_complete, phase_by-push_open, phase_by-open, is_complete-phase_by, deciding_prefix-push, with_earlier-push}
use Rattle.ar_limits.proofs.NumberedLemmas.{numbered_same, numbered_set, numbered_get}

-- ---- The marks of a metric

pub marks_of-push_other : (i : ℕ) (events : List Event) (e : Event) → mark_of i e ≡ None
    → marks_of i (events ++ e ∷ []) ≡ marks_of i events
unfolding marks_of
marks_of-push_other i events e none = rw (filter_map-append (mark_of i) events (e ∷ []), none) (append-nil (filter_map (mark_of i) events))

pub marks_of-push_mark : (i : ℕ) (events : List Event) (e : Event) (m : Mark) → mark_of i e ≡ Some m
    → marks_of i (events ++ e ∷ []) ≡ marks_of i events ++ m ∷ []
unfolding marks_of
marks_of-push_mark i events e m own = rw (filter_map-append (mark_of i) events (e ∷ []), own) refl

pub mark_of-own : (i : ℕ) (m : Mark) → mark_of i (event.Mark i m) ≡ Some m
mark_of-own i m = let same : nat_eq i i ≡ true = grind (arith, nat_tests) in rw same refl

pub mark_of-other : (i j : ℕ) (m : Mark) → j ≢ i → mark_of j (event.Mark i m) ≡ None
mark_of-other i j m other = let apart : nat_eq i j ≡ false = grind (arith, nat_tests) in rw apart refl

-- ---- The phases by marks

pub phases_by_marks-push_stop : (limits : List Limits) (events : List Event)
    → phases_by_marks limits (events ++ event.Stop ∷ []) ≡ phases_by_marks limits events
unfolding phases_by_marks
phases_by_marks-push_stop limits events = numbered_same _ _ limits (λ i l e. ap (phase_of_marks l) (marks_of-push_other i events event.Stop refl))

pub phases_by_marks-push_mark : (limits : List Limits) (events : List Event) (i : ℕ) (l : Limits) (m : Mark)
    → slice_get limits i ≡ Some l
    → phases_by_marks limits (events ++ event.Mark i m ∷ []) ≡ set (phases_by_marks limits events) i (phase_of_marks l (marks_of i events ++ m ∷ []))
unfolding phases_by_marks
phases_by_marks-push_mark limits events i l m at =
    let f = λ (x : ℕ × Limits). phase_of_marks x.1 (marks_of x.0 events) in
    let g = λ (x : ℕ × Limits). phase_of_marks x.1 (marks_of x.0 (events ++ event.Mark i m ∷ [])) in
    numbered_set f g limits i l at (λ j k e other. ap (phase_of_marks k) (marks_of-push_other j events (event.Mark i m) (mark_of-other i j m other)))
    ∙ ap (λ marks. set (map f (enumerate_from 0 limits)) i (phase_of_marks l marks)) (marks_of-push_mark i events (event.Mark i m) m (mark_of-own i m))

pub phases_by_marks-get : (limits : List Limits) (events : List Event) (i : ℕ) (l : Limits)
    → slice_get limits i ≡ Some l
    → slice_get (phases_by_marks limits events) i ≡ Some (phase_of_marks l (marks_of i events))
unfolding phases_by_marks
phases_by_marks-get limits events i l at = numbered_get (λ (x : ℕ × Limits). phase_of_marks x.1 (marks_of x.0 events)) limits i l at

-- ---- Closing

pub ends_with_stop-push : (events : List Event) (e : Event) → ends_with_stop (events ++ e ∷ []) ≡ is_stop e
ends_with_stop-push [] e = refl
ends_with_stop-push (x ∷ []) e = refl
ends_with_stop-push (x ∷ y ∷ rest) e = ends_with_stop-push (y ∷ rest) e

pub closing-push : (limits : List Limits) (events : List Event) (e : Event)
    → closing limits (events ++ e ∷ []) ≡ cond (is_stop e) (Some phase.Successful) (closed_by_metrics (phases_for_run limits (phases_by_marks limits (events ++ e ∷ []))))
unfolding closing
closing-push limits [] e = refl
closing-push limits (x ∷ rest) e = rw (ends_with_stop-push (x ∷ rest) e) refl

pub unsuccessful_is_complete : (q : Phase) → is_unsuccessful q ≡ true → is_complete q ≡ true
unsuccessful_is_complete phase.Pending h = cc
unsuccessful_is_complete phase.Running h = cc
unsuccessful_is_complete phase.Successful h = refl
unsuccessful_is_complete phase.Failed h = refl
unsuccessful_is_complete phase.Error h = refl
unsuccessful_is_complete phase.Inconclusive h = refl

pub closed_by_metrics-complete : (phases : List Phase) (q : Phase) → closed_by_metrics phases ≡ Some q
    → is_complete q ≡ true
closed_by_metrics-complete phases q h = at (list_any is_unsuccessful phases) (list_all succeeded phases) h where
  at : (a b : Bool) → cond a (find is_unsuccessful phases) (cond b (Some phase.Successful) None) ≡ Some q
      → is_complete q ≡ true
  at true b h = unsuccessful_is_complete q (find-passes is_unsuccessful phases q h)
  at false true h = let same : phase.Successful ≡ q = cc in rw (← same) refl
  at false false h = cc

closing_is_complete : (limits : List Limits) (events : List Event) (q : Phase)
    → closing limits events ≡ Some q → is_complete q ≡ true
unfolding closing
closing_is_complete limits [] q h = cc
closing_is_complete limits (x ∷ rest) q h = at (ends_with_stop (x ∷ rest)) h where
  at : (b : Bool)
      → cond b (Some phase.Successful) (closed_by_metrics (phases_for_run limits (phases_by_marks limits (x ∷ rest)))) ≡ Some q
      → is_complete q ≡ true
  at true h = let same : phase.Successful ≡ q = cc in rw (← same) refl
  at false h = closed_by_metrics-complete (phases_for_run limits (phases_by_marks limits (x ∷ rest))) q h

pub closing-complete : (limits : List Limits) → DecidesComplete (closing limits)
closing-complete limits = record { complete = closing_is_complete limits }

-- ---- The run, closed and open

pub closing_prefix-push : (limits : List Limits) (events : List Event) (e : Event)
    → closing_prefix limits (events ++ e ∷ []) ≡ option_or (closing_prefix limits events) (cond (is_some (closing limits (events ++ e ∷ []))) (Some (events ++ e ∷ [])) None)
unfolding closing_prefix
closing_prefix-push limits events e = deciding_prefix-push (closing limits) events e

pub is_complete-run_phase : (limits : List Limits) (events : List Event)
    → is_complete (run_phase limits events) ≡ is_some (closing_prefix limits events)
unfolding run_phase closing_prefix
is_complete-run_phase limits events = is_complete-phase_by (closing limits) events (closing-complete limits)

pub run_phase-push_closed : (limits : List Limits) (events : List Event) (e : Event)
    → is_complete (run_phase limits events) ≡ true
    → run_phase limits (events ++ e ∷ []) ≡ run_phase limits events
unfolding run_phase
run_phase-push_closed limits events e h = phase_by-push_complete (closing limits) events e (closing-complete limits) h

pub run_phase-push_open : (limits : List Limits) (events : List Event) (e : Event)
    → closing_prefix limits events ≡ None
    → run_phase limits (events ++ e ∷ []) ≡ unwrap_or (closing limits (events ++ e ∷ [])) phase.Running
unfolding run_phase closing_prefix
run_phase-push_open limits events e h = phase_by-push_open (closing limits) events e h

pub run_phase-open : (limits : List Limits) (events : List Event) → closing_prefix limits events ≡ None
    → run_phase limits events ≡ open_phase events
unfolding run_phase closing_prefix
run_phase-open limits events h = phase_by-open (closing limits) events h

pub metric_phases-open : (limits : List Limits) (events : List Event) → closing_prefix limits events ≡ None
    → metric_phases limits events ≡ phases_by_marks limits events
unfolding metric_phases
metric_phases-open limits events h = rw h refl

pub metric_phases-closed : (limits : List Limits) (events prefix : List Event)
    → closing_prefix limits events ≡ Some prefix
    → metric_phases limits events ≡ map settled (phases_by_marks limits prefix)
unfolding metric_phases
metric_phases-closed limits events prefix h = rw h refl

-- ---- Late events

pub timely-push : (limits : List Limits) (events : List Event) (e : Event)
    → timely limits (events ++ e ∷ []) ≡ timely limits events ++ cond (is_late limits events e) [] (e ∷ [])
unfolding timely
timely-push limits events e =
    let keep = λ (step : List Event × Event). if is_late limits step.0 step.1 then None else Some step.1 in
    ap (filter_map keep) (with_earlier-push events e)
    ∙ filter_map-append keep (with_earlier events) ((events, e) ∷ [])
    ∙ ap (λ last. filter_map keep (with_earlier events) ++ last) (at (is_late limits events e))
  where
    at : (late : Bool) → cons_option (if late then None else Some e) [] ≡ cond late [] (e ∷ [])
    at true = refl
    at false = refl

pub timely-push_late : (limits : List Limits) (events : List Event) (e : Event)
    → is_late limits events e ≡ true → timely limits (events ++ e ∷ []) ≡ timely limits events
timely-push_late limits events e h = rw (timely-push limits events e, h) (append-nil (timely limits events))

pub timely-push_applied : (limits : List Limits) (events : List Event) (e : Event)
    → is_late limits events e ≡ false → timely limits (events ++ e ∷ []) ≡ timely limits events ++ e ∷ []
timely-push_applied limits events e h = rw (timely-push limits events e, h) refl

pub effects-push : (limits : List Limits) (events : List Event) (e : Event)
    → effects limits (events ++ e ∷ []) ≡ effects limits events ++ effect_of limits events e ∷ []
unfolding effects
effects-push limits events e = ap (map (λ step. effect_of limits step.0 step.1)) (with_earlier-push events e) ∙ map_push (λ step. effect_of limits step.0 step.1) (with_earlier events) (events, e)
