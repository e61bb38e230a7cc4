use Rattle.std.proofs.Common.{◌≡◌, ◌<◌, true, length}
use Rattle.ar_board.specs.Core.{lacking}
use Rattle.ar_board.specs.Private.Posts.{settled_core}
use Rattle.ar_board.proofs.core_state.CoreState.settle.Given as goal

-- what has moved would have moved anyway
abbrev pub invariant-turns : goal.invariant-turns
invariant-turns l = (settled_core l.self l.run ≡ settled_core l.initial.self l.run) × (l.self.ordered ≡ true) × (l.run < length l.self.bundle.runs)

abbrev pub decreases-turns : goal.decreases-turns
decreases-turns l = length (lacking l.self.bundle l.self.state l.run)
