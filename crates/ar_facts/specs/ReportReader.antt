-- What who reads the object of a report finds: members by their names, whatever their order. It is nothing where a
-- member is missing, or isn't what it should be.
use Rattle.std.specs.Prelude.{◌≡◌, refl, ℕ, ◌==◌, Bool, true, false, if◌then◌else◌, List, [], ◌∷◌, codes, find, Option, Some, None, Result, Ok, Err}
use Rattle.std.specs.Str.{bytes_eq}
use Rattle.serde_json.specs.Data.{Data, Items, item, no_items}
use Rattle.serde_json.specs.Data as json
use Rattle.serde_json.specs.Find.{as_str, get}
use Rattle.ar_value.specs.Answer.{◌>>=◌, there_or}
use Rattle.ar_value.specs.Fault.{fault_name}
use Rattle.ar_value.specs.Terms.{Text}
use Rattle.ar_value.specs.declared.fault.Fault.{Fault}
use Rattle.ar_value.specs.declared.fault.Fault.TheVariants as faults
use Rattle.ar_json.specs.Refusals.{shape_fault_name}
use Rattle.ar_json.specs.declared.value_reading.ShapeFault.{ShapeFault}
use Rattle.ar_json.specs.declared.value_reading.ShapeFault.TheVariants as misfits
use Rattle.ar_judge.specs.declared.verdict.Cause.{Cause}
use Rattle.ar_judge.specs.declared.verdict.Cause.TheVariants as causes
use Rattle.ar_judge.specs.declared.verdict.Verdict.{Verdict}
use Rattle.ar_judge.specs.declared.verdict.Verdict.TheVariants as verdicts
use Rattle.ar_limits.specs.declared.counts.Counts.{Counts}
use Rattle.ar_limits.specs.declared.event.Effect.{Effect}
use Rattle.ar_limits.specs.declared.event.Effect.TheVariants as effects
use Rattle.ar_limits.specs.declared.limits.Limits.{Limits}
use Rattle.ar_limits.specs.declared.phase.Phase.{Phase}
use Rattle.ar_limits.specs.declared.phase.Phase.TheVariants as phases
use Rattle.ar_facts.specs.Facts.{EventFacts, FindingFacts, MetricFacts, RunFacts, judged, stopped}
use Rattle.ar_facts.specs.Names.{phase_name}

-- ---- values of JSON

pub data Unread : Type 0 where
  unread : Unread

abbrev pub Reading : Type 0 → Type 0
Reading A = Result A Unread

abbrev pub mapped : {A B : Type 0} → (A → B) → Reading A → Reading B
mapped make reading = reading >>= λ found. Ok (make found)

abbrev pub string_in : Data → Reading Text
string_in found = there_or unread (as_str found)

abbrev pub count_in : Data → Reading ℕ
count_in (json.number (json.unsigned n)) = Ok n
count_in found = Err unread

abbrev pub flag_in : Data → Reading Bool
flag_in (json.boolean holds) = Ok holds
flag_in found = Err unread

-- null has nothing
abbrev pub unless_null : {A : Type 0} → (Data → Reading A) → Data → Reading (Option A)
unless_null read json.null = Ok None
unless_null read found = mapped Some (read found)

abbrev pub each_in : {A : Type 0} → (Data → Reading A) → Items → Reading (List A)
each_in read no_items = Ok []
each_in read (item found others) = read found >>= λ first. each_in read others >>= λ rest. Ok (first ∷ rest)

abbrev pub all_in : {A : Type 0} → (Data → Reading A) → Data → Reading (List A)
all_in read (json.array items) = each_in read items
all_in read found = Err unread

-- a member of an object
abbrev pub the : {A : Type 0} → (name : Text) → (Data → Reading A) → Data → Reading A
the name read from = there_or unread (get name from) >>= read

-- what has a name, of those that may
abbrev pub named_among : {A : Type 0} → (name_of : A → Text) → List A → (name : Text) → Reading A
named_among name_of all name = there_or unread (find (λ one. bytes_eq (name_of one) name) all)

-- ---- metrics

abbrev pub phase_in : Data → Reading Phase
phase_in found = string_in found >>= named_among phase_name
    (phases.Pending ∷ phases.Running ∷ phases.Successful ∷ phases.Failed ∷ phases.Error ∷ phases.Inconclusive ∷ [])

abbrev pub counts_in : Data → Reading Counts
counts_in from = do
  successful ← the (codes "successful") count_in from
  failed ← the (codes "failed") count_in from
  inconclusive ← the (codes "inconclusive") count_in from
  error ← the (codes "error") count_in from
  succession ← the (codes "consecutiveError") count_in from
  Ok (record {
    successful = successful;
    failed = failed;
    inconclusive = inconclusive;
    error = error;
    succession = succession;
  })

abbrev pub limits_in : (dry : Bool) → Data → Reading Limits
limits_in dry from = do
  failure ← the (codes "failureLimit") count_in from
  inconclusive ← the (codes "inconclusiveLimit") count_in from
  consecutive_error ← the (codes "consecutiveErrorLimit") count_in from
  count ← the (codes "count") (unless_null count_in) from
  Ok (record {
    failure = failure;
    inconclusive = inconclusive;
    consecutive_error = consecutive_error;
    count = count;
    dry = dry;
  })

abbrev pub metric_in : Data → Reading MetricFacts
metric_in from = do
  name ← the (codes "name") string_in from
  dry ← the (codes "dryRun") flag_in from
  limits ← the (codes "limits") (limits_in dry) from
  phase ← the (codes "phase") phase_in from
  counts ← the (codes "counts") counts_in from
  Ok (record { name = name; limits = limits; phase = phase; counts = counts })

-- ---- events

abbrev pub fault_in : Data → Reading Fault
fault_in found = string_in found >>= named_among fault_name
    (faults.IndexOutOfRange ∷ faults.NilOperand ∷ faults.Overflow ∷ faults.DivisionByZero ∷ [])

abbrev pub misfit_in : Data → Reading ShapeFault
misfit_in found = string_in found >>= named_among shape_fault_name
    (misfits.WrongKind ∷ misfits.FloatNumber ∷ misfits.NotFinite ∷ misfits.BadDecimal ∷ misfits.OutOfRange
    ∷ misfits.ListTooLong ∷ misfits.MissingField ∷ misfits.OutOfMemory ∷ [])

-- an error's cause, of an event
abbrev pub cause_named : (name : Text) → (event : Data) → Reading Cause
cause_named name event =
    if bytes_eq name (codes "provider") then Ok causes.Provider
    else if bytes_eq name (codes "shape") then mapped causes.Shape (the (codes "fault") misfit_in event)
    else if bytes_eq name (codes "success") then mapped causes.Success (the (codes "fault") fault_in event)
    else if bytes_eq name (codes "failure") then mapped causes.Failure (the (codes "fault") fault_in event)
    else Err unread

abbrev pub cause_in : (event : Data) → Reading Cause
cause_in event = the (codes "cause") string_in event >>= λ name. cause_named name event

abbrev pub verdict_named : (name : Text) → (event : Data) → Reading Verdict
verdict_named name event =
    if bytes_eq name (codes "Successful") then Ok verdicts.Successful
    else if bytes_eq name (codes "Failed") then Ok verdicts.Failed
    else if bytes_eq name (codes "Inconclusive") then Ok verdicts.Inconclusive
    else if bytes_eq name (codes "Error") then mapped verdicts.Error (cause_in event)
    else Err unread

abbrev pub verdict_in : (event : Data) → Reading Verdict
verdict_in event = the (codes "verdict") string_in event >>= λ name. verdict_named name event

abbrev pub judged_in : (event : Data) → Reading FindingFacts
judged_in event = the (codes "metric") string_in event >>= λ metric. mapped (judged metric) (verdict_in event)

abbrev pub finding_in : (event : Data) → Reading FindingFacts
finding_in event = the (codes "stop") flag_in event >>= λ stop. if stop then Ok stopped else judged_in event

abbrev pub effect_named : (name : Text) → (event : Data) → Reading Effect
effect_named name event =
    if bytes_eq name (codes "applied") then Ok effects.Applied
    else if bytes_eq name (codes "late") then Ok effects.Late
    else if bytes_eq name (codes "closed") then mapped effects.Closed (the (codes "phase") phase_in event)
    else Err unread

abbrev pub effect_in : (event : Data) → Reading Effect
effect_in event = the (codes "effect") string_in event >>= λ name. effect_named name event

abbrev pub event_in : Data → Reading EventFacts
event_in event = do
  number ← the (codes "number") count_in event
  finding ← finding_in event
  effect ← effect_in event
  Ok (record { number = number; finding = finding; effect = effect })

-- ---- runs, and the report

abbrev pub run_in : Data → Reading RunFacts
run_in from = do
  name ← the (codes "name") string_in from
  phase ← the (codes "phase") phase_in from
  metrics ← the (codes "metrics") (all_in metric_in) from
  events ← the (codes "events") (all_in event_in) from
  Ok (record { name = name; phase = phase; metrics = metrics; events = events })

-- the form of a report has version 1
abbrev pub report_in : Data → Reading (List RunFacts)
report_in from = the (codes "version") count_in from >>= λ version.
    if version == 1 then the (codes "runs") (all_in run_in) from else Err unread

-- ---- worked rows

unordered : counts_in (json.object
    (json.member (codes "successful") (json.number (json.unsigned 7))
    (json.member (codes "failed") (json.number (json.unsigned 2))
    (json.member (codes "error") (json.number (json.unsigned 3))
    (json.member (codes "consecutiveError") (json.number (json.unsigned 1))
    (json.member (codes "inconclusive") (json.number (json.unsigned 0)) json.no_members))))))
    ≡ Ok (record { successful = 7; failed = 2; inconclusive = 0; error = 3; succession = 1 })
unordered = refl

no_number : the (codes "failed") count_in
    (json.object (json.member (codes "failed") (json.string (codes "2")) json.no_members)) ≡ Err unread
no_number = refl
