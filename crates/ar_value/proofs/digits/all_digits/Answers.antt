use Rattle.std.proofs.Common.{arith}
use Rattle.std.specs.Str.Parse.{digits_value}
use Rattle.ar_value.proofs.DigitsLemmas.{all_digits, before-le-digits_value_after}
use Rattle.ar_value.proofs.digits.all_digits.Goals as goal

pub returns-in_err-spelled : goal.returns-in_err-spelled
returns-in_err-spelled c =
    rw (c.from_residual.ensures, all_digits c.args.whole.now c.args.fraction.now)
    (λ fits. c.in_err-spelled.ensures (omega (arith, before-le-digits_value_after (digits_value 10 c.args.whole.now) c.args.fraction.now)))

pub returns : goal.returns
returns c = grind (arith, all_digits) steps 2000000
