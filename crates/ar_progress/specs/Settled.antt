-- A metric that the close of its run made Successful, since it wasn't complete by its own measurements.
use Rattle.std.specs.Prelude.{ℕ, if◌then◌else◌, ◌++◌, codes, decimal, Option, Some, None, is_some, option_map, ◌≡◌, refl, false}
use Rattle.std.specs.Fmt.{digits}
use Rattle.ar_value.specs.Terms.{Text}
use Rattle.ar_bundle.specs.Event.{EventNumber}
use Rattle.ar_limits.specs.Metric.{decided_by}
use Rattle.ar_limits.specs.declared.counts.Counts.{Counts}
use Rattle.ar_limits.specs.declared.limits.Limits.{Limits}
use Rattle.ar_progress.specs.Waiting.{progress_of, progress_text}
use Rattle.ar_progress.specs.declared.settled.Settled.{Settled}
use Rattle.ar_progress.specs.declared.waiting.Progress.{Progress}

-- by this event; the metric's progress stays what it is
abbrev pub settled_at : (closer : EventNumber) → Progress → Settled
settled_at closer progress = record { closer = closer; measured = progress.measured; count = progress.count }

-- of a metric with these counts in the end, whose run the event `closer` closed, if one did: its counts have exceeded
-- no limit, nor reached the count
abbrev pub settled_by : (closer : Option EventNumber) → Limits → Counts → Option Settled
settled_by None limits counts = None
settled_by (Some closer) limits counts =
    if is_some (decided_by limits counts) then None else Some (settled_at closer (progress_of limits counts))

-- ---- in words

unfoldable pub settled_text : Settled → Text
settled_text settled =
    (codes "Successful, since the run closed at event " ++ (decimal settled.closer ++ codes "; "))
    ++ progress_text (record { measured = settled.measured; count = settled.count })

-- ---- Worked rows

abbrev wants : Option ℕ → Limits
wants count = record { failure = 0; inconclusive = 0; consecutive_error = 4; count = count; dry = false }

abbrev succeeding : ℕ → Counts
succeeding many = record { successful = many; failed = 0; inconclusive = 0; error = 0; succession = 0 }

abbrev words_by : (closer : Option EventNumber) → Limits → Counts → Option Text
words_by closer limits counts = option_map settled_text (settled_by closer limits counts)

three_of_nine : words_by (Some 5) (wants (Some 9)) (succeeding 3)
    ≡ Some (codes "Successful, since the run closed at event 5; 3 of count 9")
unfolding settled_text progress_text digits
three_of_nine = refl

none_measured : words_by (Some 12) (wants None) (succeeding 0)
    ≡ Some (codes "Successful, since the run closed at event 12; 0 measured, no count")
unfolding settled_text progress_text digits
none_measured = refl

-- it was complete by itself
nine_of_nine : settled_by (Some 12) (wants (Some 9)) (succeeding 9) ≡ None
nine_of_nine = refl

never_closed : settled_by None (wants (Some 9)) (succeeding 3) ≡ None
never_closed = refl
