-- The counts of a metric next to its limits, before and after a measurement.
use Rattle.std.specs.Prelude.{ℕ, ◌==◌, nat_lt, if◌then◌else◌, ◌++◌, codes, decimal, Option, Some, None, ◌≡◌, refl, false}
use Rattle.std.specs.Fmt.{digits}
use Rattle.ar_value.specs.Terms.{Text}
use Rattle.ar_limits.specs.declared.counts.Counts.{Counts}
use Rattle.ar_limits.specs.declared.limits.Limits.{Limits}
use Rattle.ar_limits.specs.Metric.{counted}
use Rattle.ar_progress.specs.Excess.{count_name, bounded_count, limit_name, limit_of}
use Rattle.ar_progress.specs.declared.excess.LimitName.{LimitName}
use Rattle.ar_progress.specs.declared.excess.LimitName.TheVariants.{Failure, Inconclusive, ConsecutiveError}

-- a number before and after, once where it stayed the same
abbrev pub change_text : (before after : ℕ) → Text
change_text before after =
    if before == after then decimal after else decimal before ++ (codes " -> " ++ decimal after)

-- how a count is to the greatest that its limit allows
abbrev pub order_text : (count limit : ℕ) → Text
order_text count limit = if nat_lt limit count then codes " > " else codes " <= "

-- the count that a limit bounds, with that
unfoldable pub count_and_limit : LimitName → Limits → (before after : Counts) → Text
count_and_limit name limits before after =
    count_name name ++ (codes " " ++ (change_text (bounded_count name before) (bounded_count name after)
    ++ (order_text (bounded_count name after) (limit_of name limits)
    ++ (limit_name name ++ (codes " " ++ decimal (limit_of name limits))))))

-- the measurements that count towards the `count`: all but errors
unfoldable pub measured_text : (before after : ℕ) → (count : Option ℕ) → Text
measured_text before after (Some count) =
    codes "measured " ++ (change_text before after ++ (codes " of count " ++ decimal count))
measured_text before after None = codes "measured " ++ (change_text before after ++ codes ", no count")

-- the same after another one
unfoldable pub next_limit : LimitName → Limits → (before after : Counts) → Text
next_limit name limits before after = codes ", " ++ count_and_limit name limits before after

abbrev pub limits_text : Limits → (before after : Counts) → Text
limits_text limits before after =
    count_and_limit Failure limits before after
    ++ (next_limit Inconclusive limits before after ++ next_limit ConsecutiveError limits before after)

unfoldable pub changed_counts : Limits → (before after : Counts) → Text
changed_counts limits before after =
    limits_text limits before after ++ (codes ", " ++ measured_text (counted before) (counted after) limits.count)

-- ---- Worked rows

abbrev one_may_fail : Limits
one_may_fail = record { failure = 1; inconclusive = 0; consecutive_error = 4; count = Some 3; dry = false }

abbrev without_count : Limits
without_count = record { failure = 1; inconclusive = 0; consecutive_error = 4; count = None; dry = false }

-- the counts of these numbers of successful, failed and consecutive erroneous measurements
abbrev counting : (successful failed errors : ℕ) → Counts
counting successful failed errors =
    record { successful = successful; failed = failed; inconclusive = 0; error = errors; succession = errors }

second_failure : changed_counts one_may_fail (counting 0 1 0) (counting 0 2 0)
    ≡ codes "failed 1 -> 2 > failureLimit 1, inconclusive 0 <= inconclusiveLimit 0, "
    ++ codes "consecutiveError 0 <= consecutiveErrorLimit 4, measured 1 -> 2 of count 3"
unfolding changed_counts next_limit count_and_limit measured_text digits
second_failure = refl

late_measurement : changed_counts one_may_fail (counting 1 0 0) (counting 1 0 0)
    ≡ codes "failed 0 <= failureLimit 1, inconclusive 0 <= inconclusiveLimit 0, "
    ++ codes "consecutiveError 0 <= consecutiveErrorLimit 4, measured 1 of count 3"
unfolding changed_counts next_limit count_and_limit measured_text digits
late_measurement = refl

fifth_error : changed_counts without_count (counting 7 0 4) (counting 7 0 5)
    ≡ codes "failed 0 <= failureLimit 1, inconclusive 0 <= inconclusiveLimit 0, "
    ++ codes "consecutiveError 4 -> 5 > consecutiveErrorLimit 4, measured 7, no count"
unfolding changed_counts next_limit count_and_limit measured_text digits
fifth_error = refl
