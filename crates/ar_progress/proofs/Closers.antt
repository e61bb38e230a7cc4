-- What closes a run, where it is no limit: a stop, or the last metric. And what closes none.
use Rattle.std.proofs.Common.{◌≡◌, false, None, is_some, List, [], ◌∷◌, ◌++◌, length, refl, ap, ◌∙◌, sym, subst, inl, inr}
use Rattle.std.specs.Prelude.{option_and_then}
use Rattle.std.proofs.lemmas.Bool.{false≢true}
use Rattle.ar_limits.proofs.OnePhaseLemmas.{reason_of_closing}
use Rattle.ar_limits.proofs.RunLemmas.{ends_with_stop-push}
use Rattle.ar_limits.specs.Laws.{AllLeaveToSucceed, ClosesAs}
use Rattle.ar_limits.specs.Metric.{is_unsuccessful}
use Rattle.ar_limits.specs.Replay.{IsOfMetricBelow}
use Rattle.ar_limits.specs.Run.{is_stop}
use Rattle.ar_limits.specs.declared.event.Event.{Event}
use Rattle.ar_limits.specs.declared.event.Event.TheVariants as event
use Rattle.ar_limits.specs.declared.limits.Limits.{Limits}
use Rattle.ar_limits.specs.declared.phase.Phase.{Phase}
use Rattle.ar_limits.specs.declared.phase.Phase.TheVariants as phase
use Rattle.ar_progress.proofs.Changes.{of_mark}
use Rattle.ar_progress.proofs.Completed.{change_there_below}
use Rattle.ar_progress.proofs.Entries.{entry_is}
use Rattle.ar_progress.proofs.Exceeding.{closing_is}
use Rattle.ar_progress.proofs.Reasons.{applied_dry, by_the_last, stopped}
use Rattle.ar_progress.specs.Excess.{limit_exceeded}
use Rattle.ar_progress.specs.Laws.{ClosedByAStop, ClosedByTheLast, NotClosedSinceDry, events_in}
use Rattle.ar_progress.specs.Steps.{own_change, step_after}

pub closed_by_a_stop : ClosedByAStop
closed_by_a_stop bundle limits earlier entry e happens below why =
    let none = ap (λ found. option_and_then (own_change limits (events_in bundle earlier)) found) (sym happens) ∙ (stopped (step_after bundle limits earlier entry) why).no_change in
    by_event e below none
  where
    by_event : (e : Event) → IsOfMetricBelow (length limits) e → own_change limits (events_in bundle earlier) e ≡ None → e ≡ event.Stop
    by_event event.Stop below none = refl
    by_event (event.Mark metric m) below none = absurd (false≢true (sym (ap is_some none) ∙ change_there_below limits (events_in bundle earlier) metric m below))

-- a phase by no limit isn't unsuccessful
succeeds : (reached : Phase) → limit_exceeded reached ≡ None → is_unsuccessful reached ≡ false
succeeds phase.Pending within = refl
succeeds phase.Running within = refl
succeeds phase.Successful within = refl
succeeds phase.Failed within = absurd cc
succeeds phase.Error within = absurd cc
succeeds phase.Inconclusive within = absurd cc

last_leaves : (limits : List Limits) (events : List Event) (e : Event) (reached : Phase) → is_stop e ≡ false → is_unsuccessful reached ≡ false → ClosesAs limits (events ++ e ∷ []) reached → AllLeaveToSucceed limits (events ++ e ∷ [])
last_leaves limits events e reached mark fails (inl stop) = absurd (false≢true (sym mark ∙ (sym (ends_with_stop-push events e) ∙ stop.0)))
last_leaves limits events e reached mark fails (inr (inl found)) = absurd (false≢true (sym fails ∙ found.unsuccessful))
last_leaves limits events e reached mark fails (inr (inr all)) = all.1

pub closed_by_the_last : ClosedByTheLast
closed_by_the_last bundle run limits earlier entry later is why =
    let step = by_the_last (step_after bundle limits earlier entry) why in
    let last = entry_is bundle run limits earlier entry later is in
    let of = of_mark bundle limits earlier entry step.change step.changes in
    let same : last.e ≡ of.e = cc (last.happens, of.happens) in
    let mark : is_stop last.e ≡ false = ap is_stop (same ∙ of.changes.marks) in
    let closes = closing_is limits (events_in bundle earlier) last.e step.reached (sym last.effect ∙ step.effect) in
    subst (AllLeaveToSucceed limits) (sym last.events)
    (last_leaves limits (events_in bundle earlier) last.e step.reached mark (succeeds step.reached step.within) (reason_of_closing limits (events_in bundle earlier ++ last.e ∷ []) step.reached closes.closed))

pub not_closed_since_dry : NotClosedSinceDry
not_closed_since_dry bundle limits earlier entry reached why =
    let step = applied_dry (step_after bundle limits earlier entry) reached why in
    record { change = step.change; changes = step.changes; dry = step.dry; reached_is = step.reached_is; fails = step.fails; applied = step.effect }
