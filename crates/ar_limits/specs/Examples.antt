-- Runs with their effects, phases and counts, worked out by hand from the rules.
use Rattle.std.specs.Prelude.{ℕ, ◌≡◌, true, false, Option, Some, None, List, [], ◌∷◌, refl}
use Rattle.ar_limits.specs.declared.counts.Counts.{Counts}
use Rattle.ar_limits.specs.declared.event.Event.{Event}
use Rattle.ar_limits.specs.declared.event.Event.TheVariants as event
use Rattle.ar_limits.specs.declared.event.Effect.{Effect}
use Rattle.ar_limits.specs.declared.event.Effect.TheVariants as effect
use Rattle.ar_limits.specs.declared.event.Mark.TheVariants as mark
use Rattle.ar_limits.specs.declared.limits.Limits.{Limits}
use Rattle.ar_limits.specs.declared.phase.Phase.{Phase}
use Rattle.ar_limits.specs.declared.phase.Phase.TheVariants as phase
use Rattle.ar_limits.specs.Prefixes.{prefixes, deciding_prefix, phase_by, with_earlier}
use Rattle.ar_limits.specs.Metric.{counts_of, decision, phase_of_marks}
use Rattle.ar_limits.specs.Run.{marks_of, phases_by_marks, closing, closing_prefix, run_phase}
use Rattle.ar_limits.specs.Run.{metric_phases, is_late, effect_of, effects, timely, metric_counts}

-- what becomes of a run
pub record Outcome : Type 0 where
  -- of each event
  pub effects : List Effect
  -- of the run
  pub phase : Phase
  -- of each metric
  pub phases : List Phase
  pub counts : List Counts

-- what the definitions say of these events
unfoldable pub outcome : List Limits → List Event → Outcome
unfolding prefixes deciding_prefix phase_by with_earlier counts_of decision phase_of_marks marks_of
    phases_by_marks closing closing_prefix run_phase metric_phases is_late effect_of effects timely metric_counts
outcome limits events = record {
  effects = effects limits events;
  phase = run_phase limits events;
  phases = metric_phases limits events;
  counts = metric_counts limits events;
}

-- ---- Limits, marks and counts

-- the failures, inconclusive marks and consecutive errors that are allowed, and the count
abbrev limits_of : ℕ → ℕ → ℕ → Option ℕ → Limits
limits_of failure inconclusive consecutive_error count =
    record {
      failure = failure;
      inconclusive = inconclusive;
      consecutive_error = consecutive_error;
      count = count;
      dry = false;
    }

-- the same of a metric that decides nothing
abbrev dry : Limits → Limits
dry limits = record limits { dry = true }

-- the marks of the first metric
abbrev success : Event
success = event.Mark 0 mark.Successful

abbrev failure : Event
failure = event.Mark 0 mark.Failed

abbrev error : Event
error = event.Mark 0 mark.Error

-- successful, failed and inconclusive marks, errors, and errors at the end
abbrev counted : ℕ → ℕ → ℕ → ℕ → ℕ → Counts
counted successful failed inconclusive error succession =
    record {
      successful = successful;
      failed = failed;
      inconclusive = inconclusive;
      error = error;
      succession = succession;
    }

-- ---- The runs

without_events_all_is_pending : outcome (limits_of 0 0 4 (Some 3) ∷ []) []
    ≡ record {
      effects = [];
      phase = phase.Pending;
      phases = phase.Pending ∷ [];
      counts = counted 0 0 0 0 0 ∷ [];
    }
unfolding outcome
without_events_all_is_pending = refl

-- one failure is allowed
at_the_limit_the_run_continues : outcome (limits_of 1 0 4 (Some 5) ∷ []) (failure ∷ success ∷ [])
    ≡ record {
      effects = effect.Applied ∷ effect.Applied ∷ [];
      phase = phase.Running;
      phases = phase.Running ∷ [];
      counts = counted 1 1 0 0 0 ∷ [];
    }
unfolding outcome
at_the_limit_the_run_continues = refl

-- a second failure is one too many, and what comes after it is late
past_the_limit_the_run_fails : outcome (limits_of 1 0 4 (Some 5) ∷ []) (failure ∷ success ∷ failure ∷ failure ∷ [])
    ≡ record {
      effects = effect.Applied ∷ effect.Applied ∷ effect.Closed phase.Failed ∷ effect.Late ∷ [];
      phase = phase.Failed;
      phases = phase.Failed ∷ [];
      counts = counted 1 2 0 0 0 ∷ [];
    }
unfolding outcome
past_the_limit_the_run_fails = refl

-- four consecutive errors are allowed
a_success_ends_a_succession_of_errors : outcome (limits_of 0 0 4 None ∷ [])
    (error ∷ error ∷ error ∷ error ∷ success ∷ error ∷ error ∷ error ∷ error ∷ [])
    ≡ record {
      effects = effect.Applied ∷ effect.Applied ∷ effect.Applied ∷ effect.Applied ∷ effect.Applied ∷
          effect.Applied ∷ effect.Applied ∷ effect.Applied ∷ effect.Applied ∷ [];
      phase = phase.Running;
      phases = phase.Running ∷ [];
      counts = counted 1 0 0 8 4 ∷ [];
    }
unfolding outcome
a_success_ends_a_succession_of_errors = refl

-- the same, and one error more
a_fifth_error_in_succession_closes : outcome (limits_of 0 0 4 None ∷ [])
    (error ∷ error ∷ error ∷ error ∷ success ∷ error ∷ error ∷ error ∷ error ∷ error ∷ [])
    ≡ record {
      effects = effect.Applied ∷ effect.Applied ∷ effect.Applied ∷ effect.Applied ∷ effect.Applied ∷
          effect.Applied ∷ effect.Applied ∷ effect.Applied ∷ effect.Applied ∷ effect.Closed phase.Error ∷ [];
      phase = phase.Error;
      phases = phase.Error ∷ [];
      counts = counted 1 0 0 9 5 ∷ [];
    }
unfolding outcome
a_fifth_error_in_succession_closes = refl

-- three marks reach a count of three, and one of them may be a failure
a_failure_within_its_limit_counts : outcome (limits_of 1 0 4 (Some 3) ∷ []) (success ∷ success ∷ failure ∷ [])
    ≡ record {
      effects = effect.Applied ∷ effect.Applied ∷ effect.Closed phase.Successful ∷ [];
      phase = phase.Successful;
      phases = phase.Successful ∷ [];
      counts = counted 2 1 0 0 0 ∷ [];
    }
unfolding outcome
a_failure_within_its_limit_counts = refl

an_error_is_not_counted : outcome (limits_of 0 0 4 (Some 1) ∷ []) (error ∷ success ∷ [])
    ≡ record {
      effects = effect.Applied ∷ effect.Closed phase.Successful ∷ [];
      phase = phase.Successful;
      phases = phase.Successful ∷ [];
      counts = counted 1 0 0 1 0 ∷ [];
    }
unfolding outcome
an_error_is_not_counted = refl

-- a failure that reaches the count
a_limit_comes_before_the_count : outcome (limits_of 0 0 4 (Some 1) ∷ []) (failure ∷ [])
    ≡ record {
      effects = effect.Closed phase.Failed ∷ [];
      phase = phase.Failed;
      phases = phase.Failed ∷ [];
      counts = counted 0 1 0 0 0 ∷ [];
    }
unfolding outcome
a_limit_comes_before_the_count = refl

-- an inconclusive mark of the second metric closes, and the first, without a mark, becomes Successful
closing_completes_the_other_metrics : outcome (limits_of 0 0 4 (Some 3) ∷ limits_of 0 0 4 (Some 3) ∷ [])
    (event.Mark 1 mark.Inconclusive ∷ [])
    ≡ record {
      effects = effect.Closed phase.Inconclusive ∷ [];
      phase = phase.Inconclusive;
      phases = phase.Successful ∷ phase.Inconclusive ∷ [];
      counts = counted 0 0 0 0 0 ∷ counted 0 0 1 0 0 ∷ [];
    }
unfolding outcome
closing_completes_the_other_metrics = refl

-- it changes no count
a_mark_of_a_complete_metric_is_late : outcome (limits_of 0 0 4 (Some 1) ∷ limits_of 0 0 4 (Some 1) ∷ [])
    (success ∷ failure ∷ event.Mark 1 mark.Successful ∷ [])
    ≡ record {
      effects = effect.Applied ∷ effect.Late ∷ effect.Closed phase.Successful ∷ [];
      phase = phase.Successful;
      phases = phase.Successful ∷ phase.Successful ∷ [];
      counts = counted 1 0 0 0 0 ∷ counted 1 0 0 0 0 ∷ [];
    }
unfolding outcome
a_mark_of_a_complete_metric_is_late = refl

-- the first closes a run without marks
a_second_stop_is_late : outcome (limits_of 0 0 4 (Some 3) ∷ []) (event.Stop ∷ event.Stop ∷ [])
    ≡ record {
      effects = effect.Closed phase.Successful ∷ effect.Late ∷ [];
      phase = phase.Successful;
      phases = phase.Successful ∷ [];
      counts = counted 0 0 0 0 0 ∷ [];
    }
unfolding outcome
a_second_stop_is_late = refl

-- a dry metric fails and is complete, the other succeeds and closes, and what comes for the first one is late
a_dry_failure_closes_nothing : outcome (dry (limits_of 0 0 4 (Some 1)) ∷ limits_of 0 0 4 (Some 1) ∷ [])
    (failure ∷ event.Mark 1 mark.Successful ∷ success ∷ [])
    ≡ record {
      effects = effect.Applied ∷ effect.Closed phase.Successful ∷ effect.Late ∷ [];
      phase = phase.Successful;
      phases = phase.Failed ∷ phase.Successful ∷ [];
      counts = counted 0 1 0 0 0 ∷ counted 1 0 0 0 0 ∷ [];
    }
unfolding outcome
a_dry_failure_closes_nothing = refl

-- the last open metric is a dry one, and its failure closes with success
a_dry_failure_completes_the_last : outcome (dry (limits_of 0 0 4 (Some 1)) ∷ dry (limits_of 0 0 4 (Some 1)) ∷ [])
    (failure ∷ event.Mark 1 mark.Failed ∷ [])
    ≡ record {
      effects = effect.Applied ∷ effect.Closed phase.Successful ∷ [];
      phase = phase.Successful;
      phases = phase.Failed ∷ phase.Failed ∷ [];
      counts = counted 0 1 0 0 0 ∷ counted 0 1 0 0 0 ∷ [];
    }
unfolding outcome
a_dry_failure_completes_the_last = refl

-- a failure next to a dry error closes, and the open dry metric becomes Successful
another_failure_closes_with_a_dry_error : outcome
    (dry (limits_of 0 0 0 None) ∷ limits_of 0 0 4 None ∷ dry (limits_of 0 0 4 None) ∷ [])
    (error ∷ event.Mark 1 mark.Failed ∷ [])
    ≡ record {
      effects = effect.Applied ∷ effect.Closed phase.Failed ∷ [];
      phase = phase.Failed;
      phases = phase.Error ∷ phase.Failed ∷ phase.Successful ∷ [];
      counts = counted 0 0 0 1 1 ∷ counted 0 1 0 0 0 ∷ counted 0 0 0 0 0 ∷ [];
    }
unfolding outcome
another_failure_closes_with_a_dry_error = refl
