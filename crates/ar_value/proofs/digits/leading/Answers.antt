use Rattle.std.proofs.Common.{◌-◌, take, arith}
use Rattle.std.specs.Str.Parse.{digits_value}
use Rattle.ar_value.proofs.DigitsLemmas.{list_all_take, leading_digits, before-le-digits_value_after}
use Rattle.ar_value.proofs.digits.leading.Goals as goal

pub returns-in_err-before : goal.returns-in_err-before
returns-in_err-before c =
    let first = c.min-first.result in
    rw (c.from_residual.ensures, leading_digits c.args.whole.now c.args.fraction.now c.args.count first c.min-first.ensures)
    (λ fits. c.in_err-before.ensures (omega (arith, before-le-digits_value_after (digits_value 10 (take first c.args.whole.now)) (take (c.args.count - first) c.args.fraction.now))))

pub returns : goal.returns
returns c = grind (arith, list_all_take, leading_digits) steps 2000000
