-- What the numbers of events are called.
use Rattle.std.specs.Prelude.{ℕ}

-- where an event is in its bundle, from 0
abbrev pub EventNumber : Type 0
EventNumber = ℕ
