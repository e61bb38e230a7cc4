use Rattle.std.proofs.Common.{arith}
use Rattle.ar_value.proofs.DigitsLemmas.{below_thousand}
use Rattle.ar_value.proofs.decimal_text.exponent.Goals as goal

pub returns-in_err-exponent-clause-value : goal.returns-in_err-exponent-clause-value
returns-in_err-exponent-clause-value c =
    absurd (c.in_err-exponent.ensures (omega (arith, below_thousand _ c.if-not-is_exponent.ensures.digits c.if-not-is_exponent.ensures.most)))

pub returns-then-is_negative-clause-small : goal.returns-then-is_negative-clause-small
returns-then-is_negative-clause-small c =
    (omega arith, omega (arith, c.in_ok-exponent.ensures, below_thousand _ c.if-not-is_exponent.ensures.digits c.if-not-is_exponent.ensures.most))

pub returns-else-is_negative-clause-small : goal.returns-else-is_negative-clause-small
returns-else-is_negative-clause-small c =
    (omega (arith, c.in_ok-exponent.ensures, below_thousand _ c.if-not-is_exponent.ensures.digits c.if-not-is_exponent.ensures.most), omega arith)
