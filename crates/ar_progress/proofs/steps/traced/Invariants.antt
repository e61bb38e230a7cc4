use Rattle.std.proofs.Common.{◌≡◌, ◌++◌, [], drop, flat_map, take}
use Rattle.ar_limits.specs.Replay.{Replays}
use Rattle.ar_bundle.specs.Bundle.{events_of}
use Rattle.ar_bundle.specs.Lawful.{numbers_of}
use Rattle.ar_progress.specs.Private.Completers.{AreCompleters}
use Rattle.ar_progress.specs.Steps.{closer_of, if_chosen, steps_after}
use Rattle.ar_progress.proofs.steps.traced.Given as goal

-- the entries so far were handed to the state, those that are chosen come before those of the entries that are left, and
-- the events that closed the run and completed its metrics are known
abbrev pub invariant-loop-entry : goal.invariant-loop-entry
invariant-loop-entry l =
    Replays l.run.limits (events_of l.bundle (numbers_of (take l.entry-index l.entries))) l.state
    × (l.state.handed ≡ l.entry-index)
    × (l.closer ≡ closer_of (take l.entry-index l.entries))
    × AreCompleters l.bundle l.run.limits (take l.entry-index l.entries) l.completers.items
    × (l.steps.items ++ flat_map (if_chosen l.chosen) (steps_after l.bundle l.run.limits (take l.entry-index l.entries) (drop l.entry-index l.entries)) ≡ flat_map (if_chosen l.chosen) (steps_after l.bundle l.run.limits [] l.entries))
