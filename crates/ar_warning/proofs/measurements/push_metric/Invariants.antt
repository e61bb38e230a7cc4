use Rattle.std.proofs.Common.{◌≡◌, drop, take}
use Rattle.ar_warning.specs.Each.{each_from}
use Rattle.ar_warning.specs.Measurements.{event_misfit}
use Rattle.ar_warning.proofs.measurements.push_metric.Given as goal

-- the first warning is among those of the events that are left
abbrev pub invariant-loop-event_number : goal.invariant-loop-event_number
invariant-loop-event_number l =
    (take 1 (each_from (event_misfit l.number l.metric.name) l.event_number (drop l.event_number l.events)) ≡ take 1 (each_from (event_misfit l.number l.metric.name) 0 l.events)) × (l.out.items ≡ l.initial.out.items)
