use Rattle.std.proofs.Common.{rules}
use Rattle.ar_compile.proofs.Sequences.{all_agree, others_agree, one_is_outside, all_are_inside}
use Rattle.ar_compile.proofs.limits.+limits.Goals as goal

pub all_in_limits-returns-then-not-in_limits : goal.all_in_limits-returns-then-not-in_limits
all_in_limits-returns-then-not-in_limits t c = search (rules, all_agree, others_agree, one_is_outside, all_are_inside)

pub all_in_limits-loop-item-preserved : goal.all_in_limits-loop-item-preserved
all_in_limits-loop-item-preserved t c = search (rules, all_agree, others_agree, one_is_outside, all_are_inside)
