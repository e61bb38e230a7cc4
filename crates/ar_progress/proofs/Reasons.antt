-- What each reason says of its step.
use Rattle.std.proofs.Common.{◌≡◌, ℕ, Bool, true, false, Option, Some, None, refl, ap, ◌∙◌, sym}
use Rattle.std.specs.Prelude.{◌&&◌, if◌then◌else◌, option_map}
use Rattle.ar_limits.specs.Metric.{is_unsuccessful}
use Rattle.ar_limits.specs.declared.event.Effect.{Effect}
use Rattle.ar_limits.specs.declared.event.Effect.TheVariants as effect
use Rattle.ar_limits.specs.declared.phase.Phase.{Phase}
use Rattle.ar_progress.specs.Excess.{excess_at, excess_of, limit_exceeded}
use Rattle.ar_progress.specs.Why.{why_applied, why_by, why_closed, why_completed, why_late, why_of}
use Rattle.ar_progress.specs.declared.excess.Excess.{Excess}
use Rattle.ar_progress.specs.declared.excess.LimitName.{LimitName}
use Rattle.ar_progress.specs.declared.steps.Change.{Change}
use Rattle.ar_progress.specs.declared.steps.Step.{Step}
use Rattle.ar_progress.specs.declared.why.Why.{Why}
use Rattle.ar_progress.specs.declared.why.Why.TheVariants.{AfterClose, AllComplete, Dry, Exceeded, MetricWas, Stopped}

-- an event that doesn't close is given a reason where it is dry
not_applied : {P : Type 0} (change : Option Change) (why : Why) → why_applied change ≡ Some why → ((reached : Phase) → Dry reached ≡ why → P) → P
not_applied None why is known = absurd cc
not_applied {P} (Some change) why is known = by_test (change.limits.dry && is_unsuccessful change.after.phase) is where
  by_test : (dry : Bool) → (if dry then Some (Dry change.after.phase) else None) ≡ Some why → P
  by_test true is = known change.after.phase cc
  by_test false is = absurd cc

-- ---- by a limit

pub record IsExceeded (step : Step) (reached : Phase) (excess : Excess) : Type 0 where
  pub change : Change
  pub changes : step.change ≡ Some change
  pub effect : step.entry.effect ≡ effect.Closed reached
  pub named : limit_exceeded reached ≡ Some excess.limit
  pub excess_is : excess ≡ excess_at change.limits change.after.counts excess.limit

pub exceeded : (step : Step) (reached : Phase) (excess : Excess) → why_of step ≡ Some (Exceeded reached excess) → IsExceeded step reached excess
exceeded step reached excess is = by_effect step.entry.effect refl is where
  completed : (phase : Phase) (change : Change) (name : Option LimitName) → step.entry.effect ≡ effect.Closed phase → step.change ≡ Some change → limit_exceeded phase ≡ name
      → why_completed phase (option_map (excess_at change.limits change.after.counts) name) ≡ Exceeded reached excess → IsExceeded step reached excess
  completed phase change None closes changes named is = absurd cc
  completed phase change (Some name) closes changes named is =
      let same : phase ≡ reached = cc in
      let made : excess_at change.limits change.after.counts name ≡ excess = cc in
      let own : name ≡ excess.limit = ap (λ (excess : Excess). excess.limit) made in
      record {
        change = change;
        changes = changes;
        effect = closes ∙ ap (λ phase. effect.Closed phase) same;
        named = ap limit_exceeded (sym same) ∙ (named ∙ ap (λ name. Some name) own);
        excess_is = sym made ∙ ap (excess_at change.limits change.after.counts) own;
      }

  closed : (phase : Phase) (change : Option Change) → step.entry.effect ≡ effect.Closed phase → step.change ≡ change → why_closed phase change ≡ Exceeded reached excess → IsExceeded step reached excess
  closed phase None closes changes is = absurd cc
  closed phase (Some change) closes changes is = completed phase change (limit_exceeded phase) closes changes refl is

  late : (closer : Option ℕ) (change : Option Change) (completer : Option ℕ) → why_late closer change completer ≡ Some (Exceeded reached excess) → IsExceeded step reached excess
  late (Some number) change completer is = absurd cc
  late None (Some change) completer is = absurd cc
  late None None completer is = absurd cc

  by_effect : (own : Effect) → step.entry.effect ≡ own → why_by own step ≡ Some (Exceeded reached excess) → IsExceeded step reached excess
  by_effect effect.Applied own is = not_applied step.change (Exceeded reached excess) is (λ phase dry. absurd cc)
  by_effect (effect.Closed phase) own is = let same : why_closed phase step.change ≡ Exceeded reached excess = cc in closed phase step.change own refl same
  by_effect effect.Late own is = late step.closer step.change step.completer is

-- ---- by its run

pub record IsAfterClose (step : Step) (number : ℕ) : Type 0 where
  pub effect : step.entry.effect ≡ effect.Late
  pub closer : step.closer ≡ Some number

closed_why : {P : Type 0} (phase : Phase) (change : Option Change) (why : Why) → why_closed phase change ≡ why → (Stopped ≡ why → P) → ((reached : Phase) (excess : Excess) → Exceeded reached excess ≡ why → P) → (AllComplete ≡ why → P) → P
closed_why phase None why is stopped over all = stopped is
closed_why {P} phase (Some change) why is stopped over all = by_excess (excess_of phase change.limits change.after.counts) is where
  by_excess : (excess : Option Excess) → why_completed phase excess ≡ why → P
  by_excess None is = all is
  by_excess (Some excess) is = over phase excess is

pub after_close : (step : Step) (number : ℕ) → why_of step ≡ Some (AfterClose number) → IsAfterClose step number
after_close step number is = by_effect step.entry.effect refl is where
  late : (closer : Option ℕ) (change : Option Change) → step.entry.effect ≡ effect.Late → step.closer ≡ closer → why_late closer change step.completer ≡ Some (AfterClose number) → IsAfterClose step number
  late (Some own) change comes closed is = let same : own ≡ number = cc in record { effect = comes; closer = closed ∙ ap (λ number. Some number) same }
  late None (Some change) comes closed is = absurd cc
  late None None comes closed is = absurd cc

  by_effect : (own : Effect) → step.entry.effect ≡ own → why_by own step ≡ Some (AfterClose number) → IsAfterClose step number
  by_effect effect.Applied own is = not_applied step.change (AfterClose number) is (λ phase dry. absurd cc)
  by_effect (effect.Closed phase) own is =
      let same : why_closed phase step.change ≡ AfterClose number = cc in
      closed_why phase step.change (AfterClose number) same (λ no. absurd cc) (λ reached excess no. absurd cc) (λ no. absurd cc)
  by_effect effect.Late own is = late step.closer step.change own refl is

-- ---- by its metric

pub record IsMetricWas (step : Step) (reached : Phase) (since : Option ℕ) : Type 0 where
  pub change : Change
  pub changes : step.change ≡ Some change
  pub effect : step.entry.effect ≡ effect.Late
  pub never_closed : step.closer ≡ None
  pub reached_is : change.before.phase ≡ reached
  pub since_is : step.completer ≡ since

pub metric_was : (step : Step) (reached : Phase) (since : Option ℕ) → why_of step ≡ Some (MetricWas reached since) → IsMetricWas step reached since
metric_was step reached since is = by_effect step.entry.effect refl is where
  late : (closer : Option ℕ) (change : Option Change) → step.entry.effect ≡ effect.Late → step.closer ≡ closer → step.change ≡ change → why_late closer change step.completer ≡ Some (MetricWas reached since) → IsMetricWas step reached since
  late (Some own) change comes closed changes is = absurd cc
  late None (Some change) comes closed changes is =
      let phases : change.before.phase ≡ reached = cc in
      let completers : step.completer ≡ since = cc in
      record { change = change; changes = changes; effect = comes; never_closed = closed; reached_is = phases; since_is = completers }
  late None None comes closed changes is = absurd cc

  by_effect : (own : Effect) → step.entry.effect ≡ own → why_by own step ≡ Some (MetricWas reached since) → IsMetricWas step reached since
  by_effect effect.Applied own is = not_applied step.change (MetricWas reached since) is (λ phase dry. absurd cc)
  by_effect (effect.Closed phase) own is =
      let same : why_closed phase step.change ≡ MetricWas reached since = cc in
      closed_why phase step.change (MetricWas reached since) same (λ no. absurd cc) (λ reached excess no. absurd cc) (λ no. absurd cc)
  by_effect effect.Late own is = late step.closer step.change own refl refl is

-- ---- by a stop, and by the last metric

pub record IsStopped (step : Step) : Type 0 where
  pub no_change : step.change ≡ None

pub stopped : (step : Step) → why_of step ≡ Some Stopped → IsStopped step
stopped step is = by_effect step.entry.effect refl is where
  closed : (phase : Phase) (change : Option Change) → step.change ≡ change → why_closed phase change ≡ Stopped → IsStopped step
  closed phase None changes is = record { no_change = changes }
  closed phase (Some change) changes is = by_excess (excess_of phase change.limits change.after.counts) is where
    by_excess : (excess : Option Excess) → why_completed phase excess ≡ Stopped → IsStopped step
    by_excess None is = absurd cc
    by_excess (Some excess) is = absurd cc

  late : (closer : Option ℕ) (change : Option Change) → why_late closer change step.completer ≡ Some Stopped → IsStopped step
  late (Some number) change is = absurd cc
  late None (Some change) is = absurd cc
  late None None is = absurd cc

  by_effect : (own : Effect) → step.entry.effect ≡ own → why_by own step ≡ Some Stopped → IsStopped step
  by_effect effect.Applied own is = not_applied step.change Stopped is (λ phase dry. absurd cc)
  by_effect (effect.Closed phase) own is = let same : why_closed phase step.change ≡ Stopped = cc in closed phase step.change refl same
  by_effect effect.Late own is = late step.closer step.change is

pub record IsByTheLast (step : Step) : Type 0 where
  pub change : Change
  pub changes : step.change ≡ Some change
  pub reached : Phase
  pub effect : step.entry.effect ≡ effect.Closed reached
  pub within : limit_exceeded reached ≡ None

pub by_the_last : (step : Step) → why_of step ≡ Some AllComplete → IsByTheLast step
by_the_last step is = by_effect step.entry.effect refl is where
  completed : (phase : Phase) (change : Change) (name : Option LimitName) → step.entry.effect ≡ effect.Closed phase → step.change ≡ Some change → limit_exceeded phase ≡ name
      → why_completed phase (option_map (excess_at change.limits change.after.counts) name) ≡ AllComplete → IsByTheLast step
  completed phase change None closes changes named is = record { change = change; changes = changes; reached = phase; effect = closes; within = named }
  completed phase change (Some name) closes changes named is = absurd cc

  closed : (phase : Phase) (change : Option Change) → step.entry.effect ≡ effect.Closed phase → step.change ≡ change → why_closed phase change ≡ AllComplete → IsByTheLast step
  closed phase None closes changes is = absurd cc
  closed phase (Some change) closes changes is = completed phase change (limit_exceeded phase) closes changes refl is

  late : (closer : Option ℕ) (change : Option Change) → why_late closer change step.completer ≡ Some AllComplete → IsByTheLast step
  late (Some number) change is = absurd cc
  late None (Some change) is = absurd cc
  late None None is = absurd cc

  by_effect : (own : Effect) → step.entry.effect ≡ own → why_by own step ≡ Some AllComplete → IsByTheLast step
  by_effect effect.Applied own is = not_applied step.change AllComplete is (λ phase dry. absurd cc)
  by_effect (effect.Closed phase) own is = let same : why_closed phase step.change ≡ AllComplete = cc in closed phase step.change own refl same
  by_effect effect.Late own is = late step.closer step.change is

-- ---- by no metric, since it is dry

pub record IsAppliedDry (step : Step) (reached : Phase) : Type 0 where
  pub change : Change
  pub changes : step.change ≡ Some change
  pub effect : step.entry.effect ≡ effect.Applied
  pub dry : change.limits.dry ≡ true
  pub reached_is : change.after.phase ≡ reached
  pub fails : is_unsuccessful reached ≡ true

pub applied_dry : (step : Step) (reached : Phase) → why_of step ≡ Some (Dry reached) → IsAppliedDry step reached
applied_dry step reached is = by_effect step.entry.effect refl is where
  tested : (change : Change) (dry fails : Bool) → step.entry.effect ≡ effect.Applied → step.change ≡ Some change → change.limits.dry ≡ dry → is_unsuccessful change.after.phase ≡ fails
      → (if dry && fails then Some (Dry change.after.phase) else None) ≡ Some (Dry reached) → IsAppliedDry step reached
  tested change true true applies changes dry fails is =
      let same : change.after.phase ≡ reached = cc in
      record { change = change; changes = changes; effect = applies; dry = dry; reached_is = same; fails = ap is_unsuccessful (sym same) ∙ fails }
  tested change true false applies changes dry fails is = absurd cc
  tested change false fails applies changes dry not is = absurd cc

  applied : (change : Option Change) → step.entry.effect ≡ effect.Applied → step.change ≡ change → why_applied change ≡ Some (Dry reached) → IsAppliedDry step reached
  applied None applies changes is = absurd cc
  applied (Some change) applies changes is = tested change change.limits.dry (is_unsuccessful change.after.phase) applies changes refl refl is

  late : (closer : Option ℕ) (change : Option Change) → why_late closer change step.completer ≡ Some (Dry reached) → IsAppliedDry step reached
  late (Some number) change is = absurd cc
  late None (Some change) is = absurd cc
  late None None is = absurd cc

  by_effect : (own : Effect) → step.entry.effect ≡ own → why_by own step ≡ Some (Dry reached) → IsAppliedDry step reached
  by_effect effect.Applied own is = applied step.change own refl is
  by_effect (effect.Closed phase) own is =
      let same : why_closed phase step.change ≡ Dry reached = cc in
      closed_why phase step.change (Dry reached) same (λ no. absurd cc) (λ phase excess no. absurd cc) (λ no. absurd cc)
  by_effect effect.Late own is = late step.closer step.change is
