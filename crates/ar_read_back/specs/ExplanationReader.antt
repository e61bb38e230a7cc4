-- What a reader finds in the object of an explanation: members by their names, whatever their order. It is nothing
-- where a member is missing that is looked at, or isn't what it should be.
use Rattle.std.specs.Prelude.{◌≡◌, refl, ℕ, ◌==◌, false, if◌then◌else◌, List, [], ◌∷◌, codes, Option, Some, None, Ok, Err}
use Rattle.std.specs.Str.{bytes_eq}
use Rattle.serde_json.specs.Data.{Data}
use Rattle.serde_json.specs.Data as json
use Rattle.ar_value.specs.Answer.{◌>>=◌}
use Rattle.ar_value.specs.Terms.{Text}
use Rattle.ar_object.specs.Object.{count_data}
use Rattle.ar_limits.specs.declared.phase.Phase.TheVariants as phases
use Rattle.ar_facts.specs.ReportReader.{Reading, all_in, count_in, counts_in, event_in, flag_in, limits_in, mapped, metric_in, misfit_in, named_among, phase_in, string_in, the, unless_null, unread}
use Rattle.ar_progress.specs.Excess.{limit_name}
use Rattle.ar_progress.specs.declared.excess.Excess.{Excess}
use Rattle.ar_progress.specs.declared.excess.LimitName.{LimitName}
use Rattle.ar_progress.specs.declared.excess.LimitName.TheVariants.{Failure as FailureLimit, Inconclusive, ConsecutiveError}
use Rattle.ar_progress.specs.declared.settled.Settled.{Settled}
use Rattle.ar_progress.specs.declared.waiting.Progress.{Progress}
use Rattle.ar_progress.specs.declared.why.Why.{Why}
use Rattle.ar_progress.specs.declared.why.Why.TheVariants as whys
use Rattle.ar_misfit.specs.Misfit.{Step, index, named}
use Rattle.ar_read_back.specs.Stated.{StatedAwaited, StatedChange, StatedGiven, StatedLimits, StatedMetric, StatedMisfit, StatedReason, StatedRun, had_error, had_misfit, had_nothing, had_value, stated_limits}
use Rattle.ar_read_back.specs.ConditionReader.{any_in, condition_in}

-- ---- what the provider gave

abbrev pub step_in : Data → Reading Step
step_in (json.number (json.unsigned n)) = Ok (index n)
step_in (json.string name) = Ok (named name)
step_in found = Err unread

abbrev pub stated_misfit_in : Data → Reading StatedMisfit
stated_misfit_in from = do
  path ← the (codes "path") (all_in step_in) from
  pointer ← the (codes "pointer") string_in from
  fault ← the (codes "fault") misfit_in from
  expected ← the (codes "expected") string_in from
  found ← the (codes "found") string_in from
  hint ← the (codes "hint") (unless_null string_in) from
  Ok (record {
    path = path;
    pointer = pointer;
    fault = fault;
    expected = expected;
    found = found;
    hint = hint;
  })

abbrev pub shown_given : (event : Data) → (shown : Option Text) → Reading StatedGiven
shown_given event (Some shown) = mapped (had_value shown) (the (codes "value") any_in event)
shown_given event None = Ok had_nothing

abbrev pub unless_misfit : (event : Data) → Option StatedMisfit → Reading StatedGiven
unless_misfit event (Some misfit) = Ok (had_misfit misfit)
unless_misfit event None = the (codes "shown") (unless_null string_in) event >>= λ shown. shown_given event shown

abbrev pub unless_error : (event : Data) → (error : Option Text) → Reading StatedGiven
unless_error event (Some text) = Ok (had_error text)
unless_error event None =
    the (codes "misfit") (unless_null stated_misfit_in) event >>= λ misfit. unless_misfit event misfit

abbrev pub given_in : (event : Data) → Reading StatedGiven
given_in event = the (codes "error") (unless_null string_in) event >>= λ error. unless_error event error

-- ---- an event

-- a change has no mark that its metric is dry
abbrev pub stated_limits_in : Data → Reading StatedLimits
stated_limits_in from = mapped stated_limits (limits_in false from)

abbrev pub change_in : Data → Reading StatedChange
change_in from = do
  limits ← the (codes "limits") stated_limits_in from
  before ← the (codes "before") counts_in from
  after ← the (codes "after") counts_in from
  Ok (record { limits = limits; before = before; after = after })

abbrev pub limit_in : Data → Reading LimitName
limit_in found = string_in found >>= named_among limit_name (FailureLimit ∷ Inconclusive ∷ ConsecutiveError ∷ [])

abbrev pub excess_in : (why : Data) → Reading Excess
excess_in why = do
  limit ← the (codes "limit") limit_in why
  value ← the (codes "value") count_in why
  count ← the (codes "count") count_in why
  Ok (record { limit = limit; value = value; count = count })

abbrev pub exceeded_in : (why : Data) → Reading Why
exceeded_in why = the (codes "phase") phase_in why >>= λ phase. mapped (whys.Exceeded phase) (excess_in why)

abbrev pub metric_was_in : (why : Data) → Reading Why
metric_was_in why = the (codes "phase") phase_in why
    >>= λ phase. mapped (whys.MetricWas phase) (the (codes "event") (unless_null count_in) why)

abbrev pub why_named : (kind : Text) → (why : Data) → Reading Why
why_named kind why =
    if bytes_eq kind (codes "stop") then Ok whys.Stopped
    else if bytes_eq kind (codes "limit") then exceeded_in why
    else if bytes_eq kind (codes "complete") then Ok whys.AllComplete
    else if bytes_eq kind (codes "dry") then mapped whys.Dry (the (codes "phase") phase_in why)
    else if bytes_eq kind (codes "runClosed") then mapped whys.AfterClose (the (codes "event") count_in why)
    else if bytes_eq kind (codes "metricComplete") then metric_was_in why
    else Err unread

abbrev pub why_in : Data → Reading Why
why_in why = the (codes "kind") string_in why >>= λ kind. why_named kind why

abbrev pub reason_in : Data → Reading StatedReason
reason_in from = do
  event ← the (codes "event") event_in from
  given ← given_in from
  conditions ← the (codes "conditions") (all_in condition_in) from
  no_condition ← the (codes "noCondition") flag_in from
  change ← the (codes "counts") (unless_null change_in) from
  why ← the (codes "reason") (unless_null why_in) from
  Ok (record {
    event = event;
    given = given;
    conditions = conditions;
    no_condition = no_condition;
    change = change;
    why = why;
  })

-- ---- a metric

abbrev pub progress_in : Data → Reading Progress
progress_in from = do
  measured ← the (codes "measured") count_in from
  count ← the (codes "count") (unless_null count_in) from
  Ok (record { measured = measured; count = count })

abbrev pub settled_in : Data → Reading Settled
settled_in from = do
  closer ← the (codes "event") count_in from
  measured ← the (codes "measured") count_in from
  count ← the (codes "count") (unless_null count_in) from
  Ok (record { closer = closer; measured = measured; count = count })

abbrev pub stated_metric_in : Data → Reading StatedMetric
stated_metric_in from = do
  metric ← the (codes "metric") metric_in from
  settled ← the (codes "settled") (unless_null settled_in) from
  waits_for ← the (codes "waitsFor") (unless_null progress_in) from
  Ok (record { metric = metric; settled = settled; waits_for = waits_for })

-- ---- runs

abbrev pub awaited_in : Data → Reading StatedAwaited
awaited_in from = do
  metric ← the (codes "metric") string_in from
  progress ← progress_in from
  Ok (record { metric = metric; progress = progress })

abbrev pub stated_run_in : Data → Reading StatedRun
stated_run_in from = do
  name ← the (codes "name") string_in from
  phase ← the (codes "phase") phase_in from
  reasons ← the (codes "events") (all_in reason_in) from
  metrics ← the (codes "metrics") (all_in stated_metric_in) from
  waits_for ← the (codes "waitsFor") (unless_null (all_in awaited_in)) from
  Ok (record {
    name = name;
    phase = phase;
    reasons = reasons;
    metrics = metrics;
    waits_for = waits_for;
  })

-- the form of an explanation has version 2
abbrev pub explanation_in : Data → Reading (List StatedRun)
explanation_in from = the (codes "version") count_in from >>= λ version.
    if version == 2 then the (codes "runs") (all_in stated_run_in) from else Err unread

-- ---- worked rows

-- why an event closed its run, without the last of the members
abbrev second_failure : (last : json.Members) → Data
second_failure last = json.object
    (json.member (codes "kind") (json.string (codes "limit"))
    (json.member (codes "phase") (json.string (codes "Failed"))
    (json.member (codes "limit") (json.string (codes "failureLimit"))
    (json.member (codes "value") (count_data 1) last))))

over_the_limit : why_in (second_failure (json.member (codes "count") (count_data 2) json.no_members))
    ≡ Ok (whys.Exceeded phases.Failed (record { limit = FailureLimit; value = 1; count = 2 }))
over_the_limit = refl

no_count : why_in (second_failure json.no_members) ≡ Err unread
no_count = refl

-- without runs
abbrev of_version : ℕ → Data
of_version version = json.object
    (json.member (codes "version") (count_data version)
    (json.member (codes "runs") (json.array json.no_items) json.no_members))

this_version : explanation_in (of_version 2) ≡ Ok []
this_version = refl

another_version : explanation_in (of_version 1) ≡ Err unread
another_version = refl
