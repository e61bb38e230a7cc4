use Rattle.std.proofs.Common.{arith}
use Rattle.std.proofs.lemmas.Grind.{common_steps}
use Rattle.ar_value.proofs.DigitsLemmas.{next-le-total, all_spelled}
use Rattle.ar_value.proofs.digits.spelled.Goals as goal

pub returns-in_err-checked_mul : goal.returns-in_err-checked_mul
returns-in_err-checked_mul c =
    rw c.from_residual.ensures
    (λ fits. c.in_err-checked_mul.ensures (omega (arith, next-le-total c.loop-digit.value _ c.args.digits.now c.loop-digit.digit-index c.loop-digit.invariant.spelled c.requires.digits (omega arith))))

pub returns-in_err-value : goal.returns-in_err-value
returns-in_err-value c =
    rw c.from_residual-in_err-value.ensures
    (λ fits. c.in_err-value.ensures (omega (arith, c.in_ok-checked_mul.ensures, next-le-total c.loop-digit.value _ c.args.digits.now c.loop-digit.digit-index c.loop-digit.invariant.spelled c.requires.digits (omega arith))))

pub returns : goal.returns
returns c = let e = all_spelled c.loop-digit.value _ c.args.digits.now c.loop-digit.digit-index c.loop-digit.invariant.spelled (omega arith) in (omega (arith, e, c.loop-digit.invariant.fits), e)

pub overflow_sub-digit : goal.overflow_sub-digit
overflow_sub-digit c = grind (arith, common_steps)

pub loop-digit-preserved : goal.loop-digit-preserved
loop-digit-preserved c = grind (arith, common_steps)
