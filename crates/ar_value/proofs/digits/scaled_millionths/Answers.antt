use Rattle.std.proofs.Common.{◌+◌, ◌-◌, ◌++◌, length, refl, arith, length-append}
use Rattle.std.specs.Str.Parse.{digits_value}
use Rattle.ar_value.proofs.DigitsLemmas.{both_digits, le-mul-ten_pow, scaled_down, scaled_up}
use Rattle.ar_value.proofs.digits.scaled_millionths.Goals as goal

pub returns-in_err-all_digits : goal.returns-in_err-all_digits
returns-in_err-all_digits c =
    let raised = 6 + c.args.up in
    let lowered = length c.args.fraction.now + c.args.down in
    rw (c.from_residual.ensures, scaled_up c.args.whole.now c.args.fraction.now c.args.up c.args.down raised lowered refl refl (omega (arith, c.if-lowered-raised.true)))
    (λ fits. c.in_err-all_digits.ensures (omega (arith, le-mul-ten_pow (digits_value 10 (c.args.whole.now ++ c.args.fraction.now)) (raised - lowered))))

pub returns-in_ok-all_digits : goal.returns-in_ok-all_digits
returns-in_ok-all_digits c =
    let raised = 6 + c.args.up in
    let lowered = length c.args.fraction.now + c.args.down in
    rw (scaled_up c.args.whole.now c.args.fraction.now c.args.up c.args.down raised lowered refl refl (omega (arith, c.if-lowered-raised.true)), ← c.in_ok-all_digits.ensures.1)
    c.times_power.ensures

pub returns-else-lowered-raised : goal.returns-else-lowered-raised
returns-else-lowered-raised c =
    let raised = 6 + c.args.up in
    let lowered = length c.args.fraction.now + c.args.down in
    let digits = both_digits c.args.whole.now c.args.fraction.now c.requires.whole c.requires.fraction in
    rw (scaled_down c.args.whole.now c.args.fraction.now c.args.up c.args.down raised lowered c.saturating_sub.result digits refl refl (omega (arith, c.if-lowered-raised.false)) (omega (arith, c.saturating_sub.ensures, length-append c.args.whole.now c.args.fraction.now)))
    c.leading.ensures
