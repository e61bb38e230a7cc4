use Rattle.std.proofs.Common.{map}
use Rattle.ar_object.proofs.Texts.{Remains}
use Rattle.ar_misfit.proofs.Steps.{left}
use Rattle.ar_misfit.specs.MisfitData.{step_data}
use Rattle.ar_misfit.specs.Views.{step_view}
use Rattle.ar_misfit.proofs.data.put_path.Given as goal

-- the steps that are left are still to be written
abbrev pub invariant-loop-step : goal.invariant-loop-step
invariant-loop-step l = Remains (map step_data (left l.path l.step-index)) (map step_data (map step_view l.path)) l.initial.json.written l.json.written
