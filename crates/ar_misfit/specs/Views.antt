-- What misfits in memory say.
use Rattle.std.specs.Prelude.{map, option_map}
use Rattle.serde_json.specs.View.{view}
use Rattle.ar_value.specs.View.{shape_view}
use Rattle.ar_misfit.specs.Misfit.{Misfit, Step, index, named}
use Rattle.ar_misfit.specs.declared.misfit.Misfit.{Misfit as MisfitCode}
use Rattle.ar_misfit.specs.declared.misfit.Step.{Step as StepCode}
use Rattle.ar_misfit.specs.declared.misfit.Step.TheVariants as steps

abbrev pub step_view : StepCode → Step
step_view (steps.Index number) = index number
step_view (steps.Named name) = named name.now

abbrev pub misfit_view : MisfitCode → Misfit
misfit_view misfit = record {
  path = map step_view misfit.path.items;
  expected = shape_view misfit.expected.now;
  found = option_map (λ json. view json.now) misfit.found;
  fault = misfit.fault;
}
