use Rattle.std.proofs.Common.{◌≡◌, ◌++◌, flat_map, map, string_bytes}
use Rattle.ar_misfit.proofs.Steps.{left}
use Rattle.ar_misfit.specs.MisfitText.{step_text}
use Rattle.ar_misfit.specs.Views.{step_view}
use Rattle.ar_misfit.proofs.words.push_steps.Given as goal

-- the steps so far come before those that are left
abbrev pub invariant-loop-step : goal.invariant-loop-step
invariant-loop-step l = string_bytes l.out ++ flat_map step_text (left l.path l.step-index) ≡ string_bytes l.initial.out ++ flat_map step_text (map step_view l.path)
