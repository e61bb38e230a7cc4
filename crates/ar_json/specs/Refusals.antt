-- The names of refusals of shapes and of measured values.
use Rattle.std.specs.Prelude.{codes}
use Rattle.ar_value.specs.Terms.{Text}
use Rattle.ar_json.specs.declared.shape_reading.ShapeError.{ShapeError}
use Rattle.ar_json.specs.declared.shape_reading.ShapeError.TheVariants as errors
use Rattle.ar_json.specs.declared.value_reading.ShapeFault.{ShapeFault}
use Rattle.ar_json.specs.declared.value_reading.ShapeFault.TheVariants as faults

abbrev pub shape_error_name : ShapeError → Text
shape_error_name errors.TooDeep = codes "TooDeep"
shape_error_name errors.UnknownShape = codes "UnknownShape"
shape_error_name errors.MaxMissing = codes "MaxMissing"
shape_error_name errors.MaxTooLarge = codes "MaxTooLarge"
shape_error_name errors.NestedOptional = codes "NestedOptional"
shape_error_name errors.OutOfMemory = codes "OutOfMemory"

abbrev pub shape_fault_name : ShapeFault → Text
shape_fault_name faults.WrongKind = codes "WrongKind"
shape_fault_name faults.FloatNumber = codes "FloatNumber"
shape_fault_name faults.NotFinite = codes "NotFinite"
shape_fault_name faults.BadDecimal = codes "BadDecimal"
shape_fault_name faults.OutOfRange = codes "OutOfRange"
shape_fault_name faults.ListTooLong = codes "ListTooLong"
shape_fault_name faults.MissingField = codes "MissingField"
shape_fault_name faults.OutOfMemory = codes "OutOfMemory"
