-- What had closed a run and completed its metrics, one event after another.
use Rattle.std.specs.Prelude.{ℕ, ◌≡◌, ◌<◌, List, length, slice_get, slice_index_or, slice_set, Option, Some, None, option_and_then, if◌then◌else◌, IfSome}
use Rattle.std.specs.Option.{option_or}
use Rattle.ar_bundle.specs.Bundle.{Bundle}
use Rattle.ar_bundle.specs.declared.history.Entry.{Entry}
use Rattle.ar_limits.specs.Metric.{is_complete}
use Rattle.ar_limits.specs.declared.limits.Limits.{Limits}
use Rattle.ar_progress.specs.Steps.{closes, completer_of}
use Rattle.ar_progress.specs.declared.steps.Change.{Change}

-- the event that closed the run, after one event more
abbrev pub closer_or : Option ℕ → Entry → Option ℕ
closer_or (Some number) entry = Some number
closer_or None entry = if closes entry.effect then Some entry.number else None

-- ---- the event that completed each metric, by the metric's number

-- after these events
abbrev pub AreCompleters : Bundle → List Limits → List Entry → List (Option ℕ) → Type 0
AreCompleters bundle limits entries completers = (metric : ℕ) → metric < length limits
    → slice_get completers metric ≡ Some (completer_of bundle limits entries metric)

abbrev pub IsOfMetric : (metrics : ℕ) → Option Change → Type 0
IsOfMetric metrics change = IfSome change (λ (change : Change). change.metric < metrics)

abbrev pub known_completer : List (Option ℕ) → Option Change → Option ℕ
known_completer completers change =
    option_and_then (λ (change : Change). slice_index_or completers change.metric None) change

-- after one event more
abbrev pub with_completer : List (Option ℕ) → Option Change → (number : ℕ) → List (Option ℕ)
with_completer completers None number = completers
with_completer completers (Some change) number =
    if is_complete change.after.phase
    then slice_set completers change.metric (option_or (slice_index_or completers change.metric None) (Some number))
    else completers
