-- What the code keeps of a run, and what a caller sees of it. No public contract speaks of this.
use Rattle.std.specs.Prelude.{◌≡◌, ℕ, ◌+◌, false, not, List, map, count_by, All}
use Rattle.std.specs.List.{list_any}
use Rattle.ar_limits.specs.declared.event.Effect.{Effect}
use Rattle.ar_limits.specs.declared.event.Event.{Event}
use Rattle.ar_limits.specs.declared.metric.Metric.{Metric}
use Rattle.ar_limits.specs.declared.phase.Phase.{Phase}
use Rattle.ar_limits.specs.Private.Bounds.{AreAtMost}
use Rattle.ar_limits.specs.Metric.{is_complete, is_unsuccessful, HasPositiveCounts}
use Rattle.ar_limits.specs.Run.{phase_for_run}
use Rattle.ar_limits.specs.Replay.{Standing}
use Rattle.ar_limits.specs.Private.Step.{next, answer}

-- how many of the phases aren't complete
abbrev pub incomplete_count : List Phase → ℕ
incomplete_count phases = count_by (λ phase. not (is_complete phase)) phases

-- what a metric's phase counts as towards closing its run
abbrev pub for_run : Metric → Phase
for_run metric = phase_for_run metric.limits metric.phase

-- the state of a run with these metrics and this phase
abbrev pub standing_of : List Metric → Phase → ℕ → Standing
standing_of metrics phase handed = record {
  limits = map (λ metric. metric.limits) metrics;
  phases = map (λ metric. metric.phase) metrics;
  counts = map (λ metric. metric.counts) metrics;
  phase = phase;
  handed = handed;
}

-- what always holds of the metrics, of the run's phase, and of the number of metrics that aren't complete
pub record AreConsistent (metrics : List Metric) (phase : Phase) (incomplete : ℕ) : Type 0 where
  pub incomplete_is : incomplete ≡ incomplete_count (map for_run metrics)
  pub none_unsuccessful : is_complete phase ≡ false → list_any is_unsuccessful (map for_run metrics) ≡ false
  pub positive : HasPositiveCounts (map (λ metric. metric.limits) metrics)

-- no count of any metric is above the bound
pub record AreWithin (bound : ℕ) (metrics : List Metric) : Type 0 where
  pub each : All (λ metric. AreAtMost bound metric.counts) metrics

-- the event takes the run from the first state to the second with this effect, by running counts
pub record Takes (metrics : List Metric) (phase : Phase) (incomplete : ℕ) (event : Event) (effect : Effect)
    (metrics' : List Metric) (phase' : Phase) (incomplete' : ℕ) : Type 0 where
  pub is_there : (handed : ℕ)
      → standing_of metrics' phase' handed ≡ next (standing_of metrics phase handed) event
  pub answers : (handed : ℕ) → effect ≡ answer (standing_of metrics phase handed) event
  pub consistent : AreConsistent metrics' phase' incomplete'
  pub grown : (bound : ℕ) → AreWithin bound metrics → AreWithin (bound + 1) metrics'
