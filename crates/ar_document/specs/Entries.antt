-- What the measurements of a document are: entries, each of which says what happened to a run.
use Rattle.std.specs.Prelude.{ℕ, nat_lt, Bool, true, false, if◌then◌else◌, List, [], length, map, codes, slice_get, Option, Some, None, is_some, option_and_then, Result, Ok, Err}
use Rattle.ar_value.specs.Terms.{Text}
use Rattle.serde_json.specs.Data.{Data, boolean}
use Rattle.serde_json.specs.Find.{get, as_str}
use Rattle.ar_value.specs.Answer.{◌>>=◌, there_or, holds_or, each_after}
use Rattle.ar_json.specs.Reading.{read}
use Rattle.ar_value.specs.Shape.{Shape}
use Rattle.ar_value.specs.Value.{Value}
use Rattle.ar_json.specs.declared.value_reading.ShapeFault.{ShapeFault}
use Rattle.ar_json.specs.Members.{list_of, member}
use Rattle.ar_judge.specs.Verdict.{Sample, measured, misfit, provider, sample_view}
use Rattle.ar_limits.specs.Replay.{most_events}
use Rattle.ar_bundle.specs.declared.bundle.EventPart.{EventPart}
use Rattle.ar_bundle.specs.declared.bundle.What as parts
use Rattle.ar_bundle.specs.declared.bundle.What.TheVariants as whats
use Rattle.ar_document.specs.Opening.{Opened, names_of, index_of_name}
use Rattle.ar_document.specs.declared.error.BundleError.{BundleError}
use Rattle.ar_document.specs.declared.error.BundleError.TheVariants.{TooManyMeasurements, BadEntry, UnknownRun, UnknownMetric}

-- what happened to a run: a measurement of the metric with a number, or a stop
pub data What : Type 0 where
  measure : ℕ → Sample → What
  stop : What

pub record Entry : Type 0 where
  pub run : ℕ
  pub what : What

abbrev pub entry_of : ℕ → What → Entry
entry_of run what = record { run = run; what = what }

abbrev pub what_view : parts.What → What
what_view (whats.Measure metric sample) = measure metric (sample_view sample)
what_view whats.Stop = stop

abbrev pub entry_view : EventPart → Entry
entry_view part = entry_of part.run (what_view part.what)

-- ---- one entry

-- a member that is a text
abbrev pub text_of : Text → Data → Option (List ℕ)
text_of name item = option_and_then as_str (get name item)

abbrev pub is_true : Option Data → Bool
is_true (Some (boolean value)) = value
is_true found = false

-- what an entry says: the names of its run and of its metric, whether it is a stop, the value that was measured, and
-- whether there is an error, of any value
pub record Stated : Type 0 where
  pub run : Option Text
  pub metric : Option Text
  pub stops : Bool
  pub value : Option Data
  pub fails : Bool

abbrev pub stated_as : (run metric : Option Text) → (stops : Bool) → (value : Option Data) → (fails : Bool) → Stated
stated_as run metric stops value fails =
    record { run = run; metric = metric; stops = stops; value = value; fails = fails }

abbrev pub stated_by : Data → Stated
stated_by item =
    stated_as (text_of (codes "run") item) (text_of (codes "metric") item) (is_true (get (codes "stop") item))
    (get (codes "value") item) (is_some (get (codes "error") item))

-- just one of the two is there
abbrev pub just_one : (value error : Bool) → Bool
just_one true false = true
just_one false true = true
just_one value error = false

abbrev pub sample_by : Result Value ShapeFault → Sample
sample_by (Ok value) = measured value
sample_by (Err fault) = misfit fault

-- the sample of the value that was measured, under the shape of its metric; with no value the provider failed
abbrev pub sample_of : Shape → Option Data → Sample
sample_of shape (Some json) = sample_by (read shape json)
sample_of shape None = provider

abbrev pub stop_of : Opened → (number : ℕ) → (run : List ℕ) → Result Entry BundleError
stop_of opened number name = do
  run ← there_or (UnknownRun number) (index_of_name name (names_of opened.runs))
  Ok (entry_of run stop)

-- a measurement of a metric by its name; the number of a name that is found is that of a metric
abbrev pub measured_of : Opened → (number run : ℕ) → (metric : List ℕ) → Option Data → Result Entry BundleError
measured_of opened number run name found = do
  metric ← there_or (UnknownMetric number) (index_of_name name (map (λ metric. metric.name) opened.metrics))
  part ← there_or (UnknownMetric number) (slice_get opened.metrics metric)
  Ok (entry_of run (measure metric (sample_of part.shape found)))

-- a measurement names its metric, and has just one of a value and an error
abbrev pub measurement_of : Opened → (number : ℕ) → (run : List ℕ) → Stated → Result Entry BundleError
measurement_of opened number name said = do
  metric ← there_or (BadEntry number) said.metric
  one ← holds_or (BadEntry number) (just_one (is_some said.value) said.fails)
  run ← there_or (UnknownRun number) (index_of_name name (names_of opened.runs))
  measured_of opened number run metric said.value

-- an entry names its run, and is a stop or a measurement
abbrev pub entry_saying : Opened → (number : ℕ) → Stated → Result Entry BundleError
entry_saying opened number said = do
  name ← there_or (BadEntry number) said.run
  if said.stops then stop_of opened number name else measurement_of opened number name said

-- an entry after earlier ones
unfoldable pub entry_in : Opened → (earlier : List Entry) → Data → Result Entry BundleError
entry_in opened earlier item = entry_saying opened (length earlier) (stated_by item)

-- ---- all entries

-- measurements are a list, if they are there
abbrev pub listed_entries : Option Data → Result (List Data) BundleError
listed_entries None = Ok []
listed_entries (Some json) = there_or (BadEntry 0) (list_of json)

abbrev pub few_entries : List Data → Result (List Data) BundleError
few_entries items = if nat_lt most_events (length items) then Err TooManyMeasurements else Ok items

abbrev pub entries_of_list : Opened → List Data → Result (List Entry) BundleError
entries_of_list opened items = few_entries items >>= each_after (entry_in opened) []

-- the entries of what is there as `measurements`, or none where nothing is, or their first fault
abbrev pub entries_given : Opened → Option Data → Result (List Entry) BundleError
entries_given opened found = listed_entries found >>= entries_of_list opened

unfoldable pub entries_in : Opened → Data → Result (List Entry) BundleError
entries_in opened document = entries_given opened (member (codes "measurements") document)
