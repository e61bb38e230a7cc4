-- The names of refusals of templates, and which of them is out of memory.
use Rattle.std.specs.Prelude.{Bool, true, false, codes}
use Rattle.ar_value.specs.Terms.{Text}
use Rattle.ar_manifest.specs.declared.error.ManifestError.{ManifestError}
use Rattle.ar_manifest.specs.declared.error.ManifestError.TheVariants.{WrongVersion, WrongKind, NameMissing, BadArgs, NoMetrics, TooManyMetrics, MetricNameMissing, DoubleMetric, BadField, Unsupported, BadDryRun, UnknownDryRun, OpenBraces, UnknownArg, NoValue, BadLimit, IntervalMissing, OutOfMemory}

abbrev pub is_memory : ManifestError → Bool
is_memory OutOfMemory = true
is_memory refusal = false

abbrev pub manifest_error_name : ManifestError → Text
manifest_error_name WrongVersion = codes "WrongVersion"
manifest_error_name WrongKind = codes "WrongKind"
manifest_error_name NameMissing = codes "NameMissing"
manifest_error_name (BadArgs number) = codes "BadArgs"
manifest_error_name NoMetrics = codes "NoMetrics"
manifest_error_name TooManyMetrics = codes "TooManyMetrics"
manifest_error_name (MetricNameMissing number) = codes "MetricNameMissing"
manifest_error_name (DoubleMetric number) = codes "DoubleMetric"
manifest_error_name (BadField number) = codes "BadField"
manifest_error_name (Unsupported number) = codes "Unsupported"
manifest_error_name (BadDryRun number) = codes "BadDryRun"
manifest_error_name (UnknownDryRun number) = codes "UnknownDryRun"
manifest_error_name (OpenBraces number) = codes "OpenBraces"
manifest_error_name (UnknownArg number) = codes "UnknownArg"
manifest_error_name (NoValue number) = codes "NoValue"
manifest_error_name (BadLimit number) = codes "BadLimit"
manifest_error_name (IntervalMissing number) = codes "IntervalMissing"
manifest_error_name OutOfMemory = codes "OutOfMemory"
