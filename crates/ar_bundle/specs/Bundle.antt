-- A bundle: a template's metrics, its runs, and what happened to them, numbered from 0.
use Rattle.std.specs.Prelude.{ℕ, List, slice_get, Option, Some, option_and_then, option_map}
use Rattle.std.specs.List.{filter_map}
use Rattle.ar_judge.specs.Verdict.{Judge, sample_view, verdict}
use Rattle.ar_judge.specs.declared.verdict.Verdict.{Verdict}
use Rattle.ar_judge.specs.declared.verdict.Verdict.TheVariants.{Successful, Failed, Inconclusive, Error}
use Rattle.ar_limits.specs.declared.event.Event.{Event}
use Rattle.ar_limits.specs.declared.event.Event.TheVariants as event
use Rattle.ar_limits.specs.declared.event.Mark.{Mark}
use Rattle.ar_limits.specs.declared.event.Mark.TheVariants as mark
use Rattle.ar_bundle.specs.declared.bundle.EventPart.{EventPart}
use Rattle.ar_bundle.specs.declared.bundle.MetricPart.{MetricPart}
use Rattle.ar_bundle.specs.declared.bundle.RunPart.{RunPart}
use Rattle.ar_bundle.specs.declared.bundle.What.{What}
use Rattle.ar_bundle.specs.declared.bundle.What.TheVariants.{Measure, Stop}
use Rattle.ar_bundle.specs.declared.finding.Finding.{Finding}
use Rattle.ar_bundle.specs.declared.finding.Finding.TheVariants as finding
use Rattle.ar_bundle.specs.Event.{EventNumber}

pub record Bundle : Type 0 where
  pub metrics : List MetricPart
  pub runs : List RunPart
  pub entries : List EventPart

abbrev pub bundle_of : List MetricPart → List RunPart → List EventPart → Bundle
bundle_of metrics runs entries = record { metrics = metrics; runs = runs; entries = entries }

-- ---- findings

abbrev pub judge_at : Bundle → (run metric : ℕ) → Option Judge
judge_at bundle run metric = option_and_then (λ run. slice_get run.judges metric) (slice_get bundle.runs run)

-- what happened results in a verdict, by its run's judge for its metric, or is a stop
abbrev pub found_of : Bundle → (run : ℕ) → What → Option Finding
found_of bundle run (Measure metric sample) =
    option_map (λ judge. finding.Judged (verdict judge (sample_view sample))) (judge_at bundle run metric)
found_of bundle run Stop = Some finding.Stop

-- the finding of a number
abbrev pub finding_at : Bundle → (number : EventNumber) → Option Finding
finding_at bundle number =
    option_and_then (λ entry. found_of bundle entry.run entry.what) (slice_get bundle.entries number)

-- ---- what happens to runs

abbrev pub verdict_mark : Verdict → Mark
verdict_mark Successful = mark.Successful
verdict_mark Failed = mark.Failed
verdict_mark Inconclusive = mark.Inconclusive
verdict_mark (Error cause) = mark.Error

-- what a finding does to the run: a mark of its metric, or a stop
abbrev pub event_of : What → Finding → Event
event_of (Measure metric sample) (finding.Judged verdict) = event.Mark metric (verdict_mark verdict)
event_of (Measure metric sample) finding.Stop = event.Stop
event_of Stop said = event.Stop

abbrev pub happened_as : Bundle → EventPart → Option Event
happened_as bundle entry = option_map (event_of entry.what) (found_of bundle entry.run entry.what)

-- what a number is to its run
abbrev pub happened : Bundle → (number : EventNumber) → Option Event
happened bundle number = option_and_then (happened_as bundle) (slice_get bundle.entries number)

-- what numbers are to their run, in their order
abbrev pub events_of : Bundle → (numbers : List EventNumber) → List Event
events_of bundle numbers = filter_map (happened bundle) numbers

abbrev pub run_at : Bundle → (number : EventNumber) → Option ℕ
run_at bundle number = option_map (λ entry. entry.run) (slice_get bundle.entries number)
