use Rattle.std.specs.Prelude.{[], replicate}
use Rattle.ar_bundle.specs.Bundle.{bundle_of}
use Rattle.ar_bundle.specs.declared.bundle.What.TheVariants.{Stop}
use Rattle.tests_of_runs.proofs.queues.places.Given as goal

-- a bundle of more numbers than the queue has slots
abbrev pub ghosts-taken : goal.ghosts-taken
ghosts-taken g a = record { bundle = bundle_of [] [] (replicate 65 (record { run = 0; what = Stop })); workers = 0 }
