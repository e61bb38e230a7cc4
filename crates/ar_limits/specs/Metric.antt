-- When a metric is complete, and with which phase: a definition by the prefixes of its marks.
--
-- The limits are those of the Argo Rollouts documentation, page "Analysis & Progressive Delivery", and of the
-- AnalysisTemplate spec: `failureLimit`, `inconclusiveLimit`, `consecutiveErrorLimit` and `count`.
use Rattle.std.specs.Prelude.{ℕ, ◌+◌, ◌≤◌, nat_lt, nat_le, Bool, true, false, if◌then◌else◌, Option, Some, None, List, length, reverse, count_by, take_while, All, IfSome}
use Rattle.ar_limits.specs.declared.counts.Counts.{Counts}
use Rattle.ar_limits.specs.declared.event.Mark.{Mark}
use Rattle.ar_limits.specs.declared.event.Mark.TheVariants as mark
use Rattle.ar_limits.specs.declared.limits.Limits.{Limits}
use Rattle.ar_limits.specs.declared.phase.Phase.{Phase}
use Rattle.ar_limits.specs.declared.phase.Phase.TheVariants as phase
use Rattle.ar_limits.specs.Prefixes.{phase_by}

-- ---- Marks, by kind

abbrev pub is_successful : Mark → Bool
is_successful mark.Successful = true
is_successful _ = false

abbrev pub is_failed : Mark → Bool
is_failed mark.Failed = true
is_failed _ = false

abbrev pub is_inconclusive : Mark → Bool
is_inconclusive mark.Inconclusive = true
is_inconclusive _ = false

abbrev pub is_error : Mark → Bool
is_error mark.Error = true
is_error _ = false

-- ---- Counts over a list of marks

-- the errors at the end of the list, with no other mark after them
abbrev pub errors_at_end : List Mark → ℕ
errors_at_end marks = length (take_while is_error (reverse marks))

-- the marks of each kind, and the errors at the end
unfoldable pub counts_of : List Mark → Counts
counts_of marks = record {
  successful = count_by is_successful marks;
  failed = count_by is_failed marks;
  inconclusive = count_by is_inconclusive marks;
  error = count_by is_error marks;
  succession = errors_at_end marks;
}

-- the marks that count towards `count`: all but the errors
abbrev pub counted : Counts → ℕ
counted counts = counts.successful + counts.failed + counts.inconclusive

-- whether the counted marks have reached the effective count, which a metric without end never does
abbrev pub reaches : Option ℕ → ℕ → Bool
reaches (Some count) measured = nat_le count measured
reaches None measured = false

-- ---- The decision

-- what marks with these counts decide, in this order: too many failures, too many inconclusive marks, too many
-- consecutive errors, and last the effective count
abbrev pub decided_by : Limits → Counts → Option Phase
decided_by limits counts =
    if nat_lt limits.failure counts.failed then Some phase.Failed
    else if nat_lt limits.inconclusive counts.inconclusive then Some phase.Inconclusive
    else if nat_lt limits.consecutive_error counts.succession then Some phase.Error
    else if reaches limits.count (counted counts) then Some phase.Successful
    else None

-- what a prefix of a metric's marks decides, if it decides
unfoldable pub decision : Limits → List Mark → Option Phase
decision limits prefix = decided_by limits (counts_of prefix)

-- the phase of a metric with these marks: what the shortest deciding prefix decides, else Pending or Running
unfoldable pub phase_of_marks : Limits → List Mark → Phase
phase_of_marks limits marks = phase_by (decision limits) marks

-- ---- Phases

-- whether a phase is one that stays
abbrev pub is_complete : Phase → Bool
is_complete phase.Pending = false
is_complete phase.Running = false
is_complete phase.Successful = true
is_complete phase.Failed = true
is_complete phase.Error = true
is_complete phase.Inconclusive = true

-- whether a phase is complete without success: Failed, Error or Inconclusive
abbrev pub is_unsuccessful : Phase → Bool
is_unsuccessful phase.Failed = true
is_unsuccessful phase.Error = true
is_unsuccessful phase.Inconclusive = true
is_unsuccessful phase.Pending = false
is_unsuccessful phase.Running = false
is_unsuccessful phase.Successful = false

-- whether a phase is complete with success
abbrev pub succeeded : Phase → Bool
succeeded phase.Successful = true
succeeded _ = false

-- ---- The caller's condition

-- each effective count, where there is one, is 1 or more
abbrev pub HasPositiveCounts : List Limits → Type 0
HasPositiveCounts limits = All (λ limit. IfSome limit.count (λ count. 1 ≤ count)) limits
