-- What reasons in memory say.
use Rattle.ar_value.specs.View.{value_view}
use Rattle.ar_misfit.specs.Views.{misfit_view}
use Rattle.ar_reason.specs.Reason.{Given, gave_error, gave_misfit, gave_nothing, gave_value}
use Rattle.ar_reason.specs.declared.given.Given.{Given as GivenCode}
use Rattle.ar_reason.specs.declared.given.Given.TheVariants as given

abbrev pub given_view : GivenCode → Given
given_view given.Nothing = gave_nothing
given_view (given.Error text) = gave_error text.now
given_view (given.Value value) = gave_value (value_view value.now)
given_view (given.Misfit misfit) = gave_misfit (misfit_view misfit)
