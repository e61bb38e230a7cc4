-- Misfits whose steps are in memory from the innermost on, while the outer ones are still to be found.
use Rattle.std.specs.Prelude.{map, option_map, reverse}
use Rattle.serde_json.specs.View.{view}
use Rattle.ar_value.specs.View.{shape_view}
use Rattle.ar_misfit.specs.Misfit.{Misfit}
use Rattle.ar_misfit.specs.Views.{step_view}
use Rattle.ar_misfit.specs.declared.misfit.Misfit.{Misfit as MisfitCode}

abbrev pub inward_view : MisfitCode → Misfit
inward_view misfit = record {
  path = map step_view (reverse misfit.path.items);
  expected = shape_view misfit.expected.now;
  found = option_map (λ json. view json.now) misfit.found;
  fault = misfit.fault;
}
