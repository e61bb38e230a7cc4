use Rattle.std.proofs.Common.{◌≡◌, ◌^◌, ◌<◌, drop}
use Rattle.std.specs.Str.Parse.{digits_value_after}
use Rattle.ar_value.proofs.digits.spelled.Given as goal

-- the value so far, with the digits that are left after it, is the whole number
abbrev pub invariant-loop-digit : goal.invariant-loop-digit
invariant-loop-digit l = record {
  fits : l.value < 2 ^ 64;
  spelled : digits_value_after 10 l.value (drop l.digit-index l.digits) ≡ digits_value_after 10 l.before l.digits;
}
