-- What is expected of a value that doesn't fit its shape.
use Rattle.std.specs.Prelude.{[], codes}
use Rattle.ar_value.specs.Terms.{Text}
use Rattle.ar_json.specs.declared.value_reading.ShapeFault.{ShapeFault}
use Rattle.ar_json.specs.declared.value_reading.ShapeFault.TheVariants as faults

abbrev pub misfit_expected : ShapeFault → Text
misfit_expected faults.WrongKind = codes "a value of the declared shape"
misfit_expected faults.FloatNumber = codes "a whole JSON number, or a decimal as a text, as \"0.95\""
misfit_expected faults.NotFinite = codes "a finite number"
misfit_expected faults.BadDecimal =
    codes "digits with at most one point and an exponent or none, as \"0.95\" or \"9.5e-1\""
misfit_expected faults.OutOfRange = codes "a whole of 64 bits, or a decimal whose millionths fit them"
misfit_expected faults.ListTooLong = codes "a list of at most its shape's \"max\" items"
misfit_expected faults.MissingField = codes "each field of the record's shape that isn't optional"
misfit_expected faults.OutOfMemory = []
