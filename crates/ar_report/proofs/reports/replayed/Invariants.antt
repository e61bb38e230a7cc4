use Rattle.std.proofs.Common.{◌≡◌, take}
use Rattle.ar_limits.specs.Replay.{Replays}
use Rattle.ar_bundle.specs.Bundle.{events_of}
use Rattle.ar_bundle.specs.Lawful.{numbers_of}
use Rattle.ar_report.proofs.reports.replayed.Given as goal

-- the entries so far were handed to the state
abbrev pub invariant-loop-entry : goal.invariant-loop-entry
invariant-loop-entry l = Replays l.run.limits (events_of l.bundle (numbers_of (take l.entry-index l.entries))) l.state × (l.state.handed ≡ l.entry-index)
