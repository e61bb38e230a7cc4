-- A `RunState` as a caller sees it, and what always holds of its fields: its view and its invariant.
--
-- No public contract names these. Those of `RunState` speak of the `Standing` that the view gives, and each reader's
-- contract ties a part of it to the result.
use Rattle.ar_limits.specs.declared.run.RunState.TheInside.{Inside}
use Rattle.ar_limits.specs.Replay.{Standing}
use Rattle.ar_limits.specs.Private.Kept.{standing_of, AreConsistent, AreWithin}

abbrev pub standing : Inside → Standing
standing state = standing_of state.progress.metrics.items state.progress.phase state.handed

-- what always holds of a state: its parts agree, and no count is above the number of its events
pub record IsSound (state : Inside) : Type 0 where
  pub consistent : AreConsistent state.progress.metrics.items state.progress.phase state.progress.incomplete
  pub within : AreWithin state.handed state.progress.metrics.items
