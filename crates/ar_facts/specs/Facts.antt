-- What reports say: facts of a bundle's runs, by one list of its numbers for each run, and of its conditions. Phases,
-- counts and effects are those of the list of events that the numbers are.
use Rattle.ar_judge.specs.Condition.{Condition}
use Rattle.std.specs.Prelude.{ℕ, List, [], ◌∷◌, ◌++◌, codes, flat_map, map, slice_get, Option, Some, None, option_and_then, option_map, unwrap_or}
use Rattle.ar_value.specs.Terms.{Text}
use Rattle.ar_op.specs.Code.{Code}
use Rattle.ar_judge.specs.Verdict.{Judge}
use Rattle.ar_judge.specs.declared.verdict.Verdict.{Verdict}
use Rattle.ar_safety.specs.Bounds.{Verified}
use Rattle.ar_limits.specs.Run.{effects, metric_counts, metric_phases, run_phase}
use Rattle.ar_limits.specs.declared.counts.Counts.{Counts}
use Rattle.ar_limits.specs.declared.event.Effect.{Effect}
use Rattle.ar_limits.specs.declared.limits.Limits.{Limits}
use Rattle.ar_limits.specs.declared.phase.Phase.{Phase}
use Rattle.ar_bundle.specs.Bundle.{Bundle, events_of, found_of}
use Rattle.ar_bundle.specs.Event.{EventNumber}
use Rattle.ar_bundle.specs.declared.bundle.MetricPart.{MetricPart}
use Rattle.ar_bundle.specs.declared.bundle.RunPart.{RunPart}
use Rattle.ar_bundle.specs.declared.bundle.What.{What}
use Rattle.ar_bundle.specs.declared.bundle.What.TheVariants.{Measure, Stop}
use Rattle.ar_bundle.specs.declared.finding.Finding.{Finding}
use Rattle.ar_bundle.specs.declared.finding.Finding.TheVariants as findings

-- ---- metrics

pub record MetricFacts : Type 0 where
  pub name : Text
  pub limits : Limits
  pub phase : Phase
  pub counts : Counts

abbrev pub metric_facts : MetricPart → Limits → Phase → Counts → MetricFacts
metric_facts metric own phase counts =
    record { name = metric.name; limits = own; phase = phase; counts = counts }

abbrev pub facts_of_metrics : List MetricPart → List Limits → List Phase → List Counts → List MetricFacts
facts_of_metrics (metric ∷ metrics) (own ∷ limits) (phase ∷ phases) (counts ∷ others) =
    metric_facts metric own phase counts ∷ facts_of_metrics metrics limits phases others
facts_of_metrics metrics limits phases counts = []

-- ---- events

-- the result of an event: its metric's verdict, or that the event is a stop
pub data FindingFacts : Type 0 where
  judged : (metric : Text) → Verdict → FindingFacts
  stopped : FindingFacts

abbrev pub name_at : List MetricPart → (metric : ℕ) → Text
name_at metrics metric = unwrap_or (option_map (λ part. part.name) (slice_get metrics metric)) []

-- by `found_of` a measurement is never found to be a stop, nor a stop to be judged
abbrev pub finding_facts : List MetricPart → What → Finding → FindingFacts
finding_facts metrics (Measure metric sample) (findings.Judged verdict) = judged (name_at metrics metric) verdict
finding_facts metrics (Measure metric sample) findings.Stop = stopped
finding_facts metrics Stop said = stopped

-- of an entry of the bundle; histories have no other numbers, and what is said of those doesn't matter
abbrev pub facts_found : Bundle → (number : EventNumber) → FindingFacts
facts_found bundle number =
    unwrap_or (option_and_then
    (λ entry. option_map (finding_facts bundle.metrics entry.what) (found_of bundle entry.run entry.what))
    (slice_get bundle.entries number)) stopped

pub record EventFacts : Type 0 where
  pub number : EventNumber
  pub finding : FindingFacts
  pub effect : Effect

abbrev pub event_facts : Bundle → (number : EventNumber) → Effect → EventFacts
event_facts bundle number effect =
    record { number = number; finding = facts_found bundle number; effect = effect }

abbrev pub facts_of_events : Bundle → (numbers : List EventNumber) → List Effect → List EventFacts
facts_of_events bundle (number ∷ numbers) (effect ∷ effects) =
    event_facts bundle number effect ∷ facts_of_events bundle numbers effects
facts_of_events bundle numbers effects = []

-- ---- runs

pub record RunFacts : Type 0 where
  pub name : Text
  pub phase : Phase
  pub metrics : List MetricFacts
  pub events : List EventFacts

abbrev pub run_facts : Bundle → RunPart → (numbers : List EventNumber) → RunFacts
run_facts bundle run numbers = record {
  name = run.name;
  phase = run_phase run.limits (events_of bundle numbers);
  metrics = facts_of_metrics bundle.metrics run.limits (metric_phases run.limits (events_of bundle numbers))
      (metric_counts run.limits (events_of bundle numbers));
  events = facts_of_events bundle numbers (effects run.limits (events_of bundle numbers));
}

abbrev pub facts_of_runs : Bundle → List RunPart → List (List EventNumber) → List RunFacts
facts_of_runs bundle (run ∷ runs) (numbers ∷ others) = run_facts bundle run numbers ∷ facts_of_runs bundle runs others
facts_of_runs bundle runs numbers = []

abbrev pub report_facts : Bundle → List (List EventNumber) → List RunFacts
report_facts bundle numbers = facts_of_runs bundle bundle.runs numbers

abbrev pub phases_of : List RunFacts → List Phase
phases_of runs = map (λ (run : RunFacts). run.phase) runs

-- ---- conditions

-- a condition: its run and metric, which of the metric's two it is, its verified code, and the bounds of each run of it
pub record ConditionFacts : Type 0 where
  pub run : Text
  pub metric : Text
  pub which : Text
  pub code : Code
  pub depth : ℕ
  pub budget : ℕ

abbrev pub condition_facts : (run metric which : Text) → Verified → ConditionFacts
condition_facts run metric which verified = record {
  run = run;
  metric = metric;
  which = which;
  code = verified.code;
  depth = verified.depth;
  budget = verified.budget;
}

abbrev pub facts_if_there : (run metric which : Text) → Option Verified → List ConditionFacts
facts_if_there run metric which (Some verified) = condition_facts run metric which verified ∷ []
facts_if_there run metric which None = []

abbrev pub verified_if_there : Option Condition → Option Verified
verified_if_there condition = option_map (λ condition. condition.verified) condition

-- success before failure
abbrev pub judge_facts : (run metric : Text) → Judge → List ConditionFacts
judge_facts run metric judge =
    facts_if_there run metric (codes "success") (verified_if_there judge.success)
    ++ facts_if_there run metric (codes "failure") (verified_if_there judge.failure)

-- metric by metric
abbrev pub facts_of_judges : (run : Text) → List MetricPart → List Judge → List ConditionFacts
facts_of_judges run (metric ∷ metrics) (judge ∷ judges) =
    judge_facts run metric.name judge ++ facts_of_judges run metrics judges
facts_of_judges run metrics judges = []

-- run by run
abbrev pub facts_of_conditions : List MetricPart → List RunPart → List ConditionFacts
facts_of_conditions metrics runs = flat_map (λ (run : RunPart). facts_of_judges run.name metrics run.judges) runs

abbrev pub check_facts : Bundle → List ConditionFacts
check_facts bundle = facts_of_conditions bundle.metrics bundle.runs
