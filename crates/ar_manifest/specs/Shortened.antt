-- A template whose arguments are bound, its conditions shortened.
--
-- A condition has at most 4,096 bytes. One that is longer once it is bound is refused as too long, whatever it says, so
-- it need not be made whole: a text of 4,097 spaces, which is refused in the same way, is as good.
use Rattle.std.specs.Prelude.{ℕ, ◌+◌, nat_le, if◌then◌else◌, List, length, map, codes, option_map, Result, Ok}
use Rattle.std.specs.List.{repeat}
use Rattle.ar_value.specs.Terms.{Text}
use Rattle.ar_value.specs.Answer.{◌>>=◌}
use Rattle.ar_value.specs.Limits.{most_text_bytes}
use Rattle.ar_manifest.specs.Binding.{RunArguments}
use Rattle.ar_manifest.specs.Bound.{bound_of}
use Rattle.ar_manifest.specs.declared.bound.BoundMetric.{BoundMetric}
use Rattle.ar_manifest.specs.declared.error.ManifestError.{ManifestError}
use Rattle.ar_manifest.specs.declared.template.Template.{Template}

-- a text of n spaces
unfoldable pub spaces : ℕ → Text
spaces n = repeat n (codes " ")

-- a condition's text where it has few enough bytes, and otherwise one space more than a condition may have
unfoldable pub shortened : Text → Text
shortened text = if nat_le (length text) most_text_bytes then text else spaces (most_text_bytes + 1)

-- a bound metric, its conditions shortened
abbrev pub shortened_metric : BoundMetric → BoundMetric
shortened_metric metric = record metric {
  success_condition = option_map shortened metric.success_condition;
  failure_condition = option_map shortened metric.failure_condition;
}

-- the metrics of a template, bound, their conditions shortened
unfoldable pub shortened_of : Template → RunArguments → Result (List BoundMetric) ManifestError
shortened_of template own = bound_of template own >>= λ metrics. Ok (map shortened_metric metrics)
