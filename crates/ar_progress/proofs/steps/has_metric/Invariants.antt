use Rattle.std.proofs.Common.{◌≡◌, drop}
use Rattle.std.specs.List.{list_any}
use Rattle.ar_progress.specs.Steps.{is_entry_of}
use Rattle.ar_progress.proofs.steps.has_metric.Given as goal

-- no entry so far is of the metric
abbrev pub invariant-loop-entry : goal.invariant-loop-entry
invariant-loop-entry l = list_any (is_entry_of l.bundle l.metric) (drop l.entry-index l.entries) ≡ list_any (is_entry_of l.bundle l.metric) l.entries
