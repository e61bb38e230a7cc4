-- The limits of a metric by their names, and counts that exceed them.
use Rattle.std.specs.Prelude.{ℕ, nat_lt, Bool, ◌++◌, codes, decimal, Option, Some, None, option_map, ◌≡◌, refl, false}
use Rattle.std.specs.Fmt.{digits}
use Rattle.ar_value.specs.Terms.{Text}
use Rattle.ar_limits.specs.declared.counts.Counts.{Counts}
use Rattle.ar_limits.specs.declared.limits.Limits.{Limits}
use Rattle.ar_limits.specs.declared.phase.Phase.{Phase}
use Rattle.ar_limits.specs.declared.phase.Phase.TheVariants as phases
use Rattle.ar_progress.specs.declared.excess.Excess.{Excess}
use Rattle.ar_progress.specs.declared.excess.LimitName.{LimitName}
use Rattle.ar_progress.specs.declared.excess.LimitName.TheVariants.{Failure, Inconclusive, ConsecutiveError}

-- ---- a limit, and the count that it bounds

abbrev pub limit_name : LimitName → Text
limit_name Failure = codes "failureLimit"
limit_name Inconclusive = codes "inconclusiveLimit"
limit_name ConsecutiveError = codes "consecutiveErrorLimit"

abbrev pub count_name : LimitName → Text
count_name Failure = codes "failed"
count_name Inconclusive = codes "inconclusive"
count_name ConsecutiveError = codes "consecutiveError"

-- how much it allows
abbrev pub limit_of : LimitName → Limits → ℕ
limit_of Failure limits = limits.failure
limit_of Inconclusive limits = limits.inconclusive
limit_of ConsecutiveError limits = limits.consecutive_error

-- the consecutive errors are those at the end
abbrev pub bounded_count : LimitName → Counts → ℕ
bounded_count Failure counts = counts.failed
bounded_count Inconclusive counts = counts.inconclusive
bounded_count ConsecutiveError counts = counts.succession

abbrev pub exceeds : LimitName → Limits → Counts → Bool
exceeds name limits counts = nat_lt (limit_of name limits) (bounded_count name counts)

-- ---- by which a metric has its phase

-- the limit that a metric with this phase has exceeded
abbrev pub limit_exceeded : Phase → Option LimitName
limit_exceeded phases.Failed = Some Failure
limit_exceeded phases.Inconclusive = Some Inconclusive
limit_exceeded phases.Error = Some ConsecutiveError
limit_exceeded phases.Pending = None
limit_exceeded phases.Running = None
limit_exceeded phases.Successful = None

abbrev pub excess_at : Limits → Counts → LimitName → Excess
excess_at limits counts name =
    record { limit = name; value = limit_of name limits; count = bounded_count name counts }

abbrev pub excess_of : Phase → Limits → Counts → Option Excess
excess_of phase limits counts = option_map (excess_at limits counts) (limit_exceeded phase)

-- ---- in words

unfoldable pub excess_text : Excess → Text
excess_text excess =
    count_name excess.limit ++ (codes " " ++ (decimal excess.count ++ (codes " > "
    ++ (limit_name excess.limit ++ (codes " " ++ decimal excess.value)))))

-- ---- Worked rows

abbrev one_failure_allowed : Limits
one_failure_allowed = record { failure = 1; inconclusive = 0; consecutive_error = 4; count = None; dry = false }

-- two measurements failed, and eight met an error, the last five one after another
abbrev two_failures_eight_errors : Counts
two_failures_eight_errors = record { successful = 3; failed = 2; inconclusive = 1; error = 8; succession = 5 }

abbrev words_of : Phase → Option Text
words_of phase = option_map excess_text (excess_of phase one_failure_allowed two_failures_eight_errors)

by_failures : words_of phases.Failed ≡ Some (codes "failed 2 > failureLimit 1")
unfolding excess_text digits
by_failures = refl

by_inconclusive_ones : words_of phases.Inconclusive ≡ Some (codes "inconclusive 1 > inconclusiveLimit 0")
unfolding excess_text digits
by_inconclusive_ones = refl

-- errors other than those of the succession don't count
by_errors : words_of phases.Error ≡ Some (codes "consecutiveError 5 > consecutiveErrorLimit 4")
unfolding excess_text digits
by_errors = refl

by_no_limit : words_of phases.Successful ≡ None
by_no_limit = refl
