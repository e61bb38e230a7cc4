use Rattle.std.proofs.Common.{◌≡◌, ◌^◌, ◌<◌, drop}
use Rattle.std.specs.Str.Parse.{digits_value_after}
use Rattle.ar_syntax.specs.Token.{radix}
use Rattle.ar_syntax.proofs.number.base_value.Given as goal

-- the value so far, with the digits that are left after it, is the whole number
abbrev pub invariant-loop-digit : goal.invariant-loop-digit
invariant-loop-digit l = record {
  radix_is : l.radix ≡ radix l.base;
  fits : l.value < 2 ^ 64;
  spelled : digits_value_after (radix l.base) l.value (drop l.digit-index l.digits) ≡ digits_value_after (radix l.base) 0 l.digits;
}
