-- Which events are explained, with names as their bytes.
use Rattle.std.specs.Prelude.{ℕ}
use Rattle.ar_value.specs.Terms.{Text}
use Rattle.ar_command_line.specs.declared.selection.Selection.{Selection}
use Rattle.ar_command_line.specs.declared.selection.Selection.TheVariants.{All, Event, Run, Metric}

pub data Selected : Type 0 where
  all : Selected
  event : (number : ℕ) → Selected
  of_run : (name : Text) → Selected
  of_metric : (name : Text) → Selected

abbrev pub selected : Selection → Selected
selected All = all
selected (Event number) = event number
selected (Run name) = of_run name.now
selected (Metric name) = of_metric name.now
