-- Names of runs and metrics, of which the first ones were looked at.
use Rattle.std.specs.Prelude.{ℕ, ◌+◌, List, map, Option, option_map}
use Rattle.ar_bundle.specs.declared.bundle.MetricPart.{MetricPart}
use Rattle.ar_bundle.specs.declared.bundle.RunPart.{RunPart}

-- a number among those after the first ones, as a number among all
abbrev pub among_all : (passed : ℕ) → Option ℕ → Option ℕ
among_all passed found = option_map (λ number. passed + number) found

abbrev pub run_names : List RunPart → List (List ℕ)
run_names runs = map (λ (run : RunPart). run.name) runs

abbrev pub metric_names : List MetricPart → List (List ℕ)
metric_names metrics = map (λ (metric : MetricPart). metric.name) metrics
