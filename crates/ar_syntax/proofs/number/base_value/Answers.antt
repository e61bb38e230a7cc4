use Rattle.std.proofs.lemmas.Grind.{common_steps}
use Rattle.std.proofs.Common.{arith, ap, refl, ◌*◌}
use Rattle.ar_syntax.specs.Token.{radix}
use Rattle.ar_syntax.proofs.Bases.{next-le-total, next-spelled, radix-pos}
use Rattle.ar_syntax.proofs.number.base_value.Goals as goal

pub returns-in_err-checked_mul : goal.returns-in_err-checked_mul
returns-in_err-checked_mul c =
    rw c.from_residual.ensures
    (λ fits. c.in_err-checked_mul.ensures (omega (arith, ap (λ x. c.loop-digit.value * x) c.loop-digit.invariant.radix_is, next-le-total (radix c.args.base) c.loop-digit.value _ c.args.digits.now c.loop-digit.digit-index (radix-pos c.args.base) c.loop-digit.invariant.spelled (omega arith))))

pub returns-in_err-value : goal.returns-in_err-value
returns-in_err-value c =
    rw c.from_residual-in_err-value.ensures
    (λ fits. c.in_err-value.ensures (omega (arith, ap (λ x. c.loop-digit.value * x) c.loop-digit.invariant.radix_is, c.in_ok-checked_mul.ensures.1, c.digit_value.ensures, next-le-total (radix c.args.base) c.loop-digit.value _ c.args.digits.now c.loop-digit.digit-index (radix-pos c.args.base) c.loop-digit.invariant.spelled c.loop-digit-test.true)))

pub loop-digit-preserved : goal.loop-digit-preserved
loop-digit-preserved c = record {
  radix_is = c.loop-digit.invariant.radix_is;
  fits = rw c.in_ok-value.ensures.1 c.in_ok-value.ensures.0;
  spelled = next-spelled (radix c.args.base) c.loop-digit.value c.in_ok-value.value _ c.args.digits.now c.loop-digit.digit-index
      (rw (c.in_ok-value.ensures.1, c.in_ok-checked_mul.ensures.1, c.digit_value.ensures, c.loop-digit.invariant.radix_is) refl) c.loop-digit-test.true c.loop-digit.invariant.spelled;
}

pub returns : goal.returns
returns c = grind (arith, common_steps) steps 2000000
