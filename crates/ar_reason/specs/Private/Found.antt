-- Events of a run's history, each with its finding.
use Rattle.std.specs.Prelude.{ℕ, List}
use Rattle.std.specs.List.{AllByRecursion}
use Rattle.ar_bundle.specs.Bundle.{Bundle}
use Rattle.ar_bundle.specs.Lawful.{IsFound}
use Rattle.ar_progress.specs.declared.steps.Step.{Step}

abbrev pub AreFoundSteps : Bundle → (run : ℕ) → List Step → Type 0
AreFoundSteps bundle run steps = AllByRecursion (λ step. IsFound bundle run step.entry) steps
