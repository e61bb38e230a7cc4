use Rattle.std.proofs.Common.{◌≡◌, take}
use Rattle.ar_board.specs.Private.Posts.{stepped_by}
use Rattle.ar_board.proofs.core_state.make_steps.Given as goal

-- the steps so far
abbrev pub invariant-loop-step : goal.invariant-loop-step
invariant-loop-step l = l.core ≡ stepped_by l.initial.core (take l.step-index l.steps)
