-- The names of refusals of documents.
use Rattle.std.specs.Prelude.{codes}
use Rattle.ar_value.specs.Terms.{Text}
use Rattle.ar_document.specs.declared.error.BundleError.{BundleError}
use Rattle.ar_document.specs.declared.error.BundleError.TheVariants.{TooLarge, Utf8OrJson, Manifest, ShapeMissing, Shapes, Runs, DoubleRun, Bind, Build, TooManyMeasurements, BadEntry, UnknownRun, UnknownMetric, OutOfMemory}

abbrev pub bundle_error_name : BundleError → Text
bundle_error_name TooLarge = codes "TooLarge"
bundle_error_name Utf8OrJson = codes "Utf8OrJson"
bundle_error_name (Manifest inner) = codes "Manifest"
bundle_error_name (ShapeMissing inner) = codes "ShapeMissing"
bundle_error_name (Shapes number inner) = codes "Shapes"
bundle_error_name Runs = codes "Runs"
bundle_error_name (DoubleRun inner) = codes "DoubleRun"
bundle_error_name (Bind number inner) = codes "Bind"
bundle_error_name (Build run metric inner) = codes "Build"
bundle_error_name TooManyMeasurements = codes "TooManyMeasurements"
bundle_error_name (BadEntry inner) = codes "BadEntry"
bundle_error_name (UnknownRun inner) = codes "UnknownRun"
bundle_error_name (UnknownMetric inner) = codes "UnknownMetric"
bundle_error_name OutOfMemory = codes "OutOfMemory"
