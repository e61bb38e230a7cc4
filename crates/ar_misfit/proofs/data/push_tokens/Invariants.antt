use Rattle.std.proofs.Common.{◌≡◌, ◌++◌, flat_map, map, string_bytes}
use Rattle.ar_misfit.proofs.Steps.{left}
use Rattle.ar_misfit.specs.MisfitData.{step_token}
use Rattle.ar_misfit.specs.Views.{step_view}
use Rattle.ar_misfit.proofs.data.push_tokens.Given as goal

-- the tokens so far come before those of the steps that are left
abbrev pub invariant-loop-step : goal.invariant-loop-step
invariant-loop-step l = string_bytes l.out ++ flat_map step_token (left l.path l.step-index) ≡ string_bytes l.initial.out ++ flat_map step_token (map step_view l.path)
