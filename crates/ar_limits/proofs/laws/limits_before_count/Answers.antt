use Rattle.ar_limits.proofs.LawLemmas.{failures_first, inconclusive_second, errors_third, count_last}
use Rattle.ar_limits.proofs.laws.limits_before_count.Goals as goal

pub returns : goal.returns
returns c = record { failures = failures_first; inconclusive = inconclusive_second; errors = errors_third; count = count_last }
