-- Samples of what was measured.
use Rattle.std.proofs.Common.{◌≡◌, ◌<◌, ◌≤◌, ◌∙◌, ℕ, Bool, true, false, List, length, map, get_or, Option, Some, None, Ok, Err, Bor, refl, sym, ap, subst}
use Rattle.std.specs.Prelude.{slice_get, option_map, IfSome}
use Rattle.std.specs.List.{HoldsAt}
use Rattle.std.specs.Option.{MatchOption, ok_or}
use Rattle.std.proofs.lemmas.Option.{slice_get-map, slice_get_read}
use Rattle.json.specs.Value.{value_view}
use Rattle.json.specs.declared.value.Value.{Value as Borrowed}
use Rattle.serde_json.specs.Data.{Data}
use Rattle.serde_json.specs.Read.{of_json}
use Rattle.ar_value.specs.Answer.{Unless}
use Rattle.ar_json.specs.Reading.{is_reading_memory, is_memory_under, read}
use Rattle.ar_value.specs.Shape.{Shape}
use Rattle.ar_value.specs.declared.shape.Shape.{Shape as Declared}
use Rattle.ar_json.specs.declared.value_reading.ShapeFault.{ShapeFault}
use Rattle.ar_json.proofs.ReadLemmas.{under_is_memory}
use Rattle.ar_judge.specs.Verdict.{Sample, misfit}
use Rattle.ar_bundle.specs.declared.bundle.MetricPart.{MetricPart}
use Rattle.ar_document.specs.Entries.{entry_of, measure, measured_of, sample_by, sample_of}
use Rattle.ar_document.specs.Opening.{Metric, Opened, index_of_name}
use Rattle.ar_document.specs.Private.Saying.{IsGiven}
use Rattle.ar_document.specs.declared.error.BundleError.{BundleError}
use Rattle.ar_document.specs.declared.error.BundleError.TheVariants.{UnknownMetric}

by_memory : (memory under : Bool) (P : Type 0) → (under ≡ true → memory ≡ true) → memory ≡ false → Unless under P → P
by_memory memory true P more none reported = absurd (let is = more refl in cc)
by_memory memory false P more none reported = reported

-- what was read is a misfit, where it isn't out of memory
pub misfit_reported : (shape : Shape) (json : Data) (fault : ShapeFault) → is_reading_memory fault ≡ false → Unless (is_memory_under shape fault) (read shape json ≡ Err fault) → sample_by (read shape json) ≡ misfit fault
misfit_reported shape json fault none reported = rw (by_memory (is_reading_memory fault) (is_memory_under shape fault) (read shape json ≡ Err fault) (under_is_memory shape fault) none reported) refl

-- the data of a value that was found
pub some_given : {A : Type 0} (json : Bor (Borrowed A)) (found : Option (Bor (Borrowed A))) (given : Option Data) → found ≡ Some json → IsGiven found given → (made : Data) × (given ≡ Some made) × (of_json (value_view json.now) ≡ Some made)
some_given {A} json found given is has = by given (subst (λ (found : Option (Bor (Borrowed A))). IsGiven found given) is has)
  where
    by : (given : Option Data) → IsGiven (Some json) given → (made : Data) × (given ≡ Some made) × (of_json (value_view json.now) ≡ Some made)
    by None has = absurd has
    by (Some made) has = (made, refl, has)

-- the measurer that was found at a number
pub found_at : {X : Type 0} (measurers : List X) (i : ℕ) (found : Option (Bor X)) (measurer : Bor X) (refusal : BundleError) → Ok measurer ≡ ok_or found refusal → IfSome found (λ x. x.now ≡ get_or measurers i x.now)
    → MatchOption found (length measurers ≤ i) (λ x. (i < length measurers) × HoldsAt (λ y. x.now ≡ y) measurers i) → slice_get measurers i ≡ Some measurer.now
found_at measurers i (Some x) measurer refusal is at holds =
    let same : x ≡ measurer = cc in
    slice_get_read measurers (length measurers) i measurer.now refl holds.0 (rw (← same) at)
found_at measurers i None measurer refusal is at holds = absurd cc

some_metric : (found : Option MetricPart) (shape : Declared) → option_map (λ metric. metric.shape) found ≡ Some shape → (metric : MetricPart) × (found ≡ Some metric) × (metric.shape ≡ shape)
some_metric (Some metric) shape is = (metric, refl, cc)
some_metric None shape is = absurd cc

-- metrics whose measurers are these have one at the number of a measurer, with its shape
pub metric_at : (metrics : List MetricPart) (measurers : List Declared) (i : ℕ) (shape : Declared) → measurers ≡ map (λ metric. metric.shape) metrics → slice_get measurers i ≡ Some shape
    → (metric : MetricPart) × (slice_get metrics i ≡ Some metric) × (metric.shape ≡ shape)
metric_at metrics measurers i shape are at =
    some_metric (slice_get metrics i) shape (sym (slice_get-map (λ (metric : MetricPart). metric.shape) metrics i) ∙ ap (λ list. slice_get list i) (sym are) ∙ at)

-- a measurement of a metric that has its number by its name is one with the sample that its shape gives
pub measured_by : (opened : Opened) (number run : ℕ) (name : List ℕ) (found : Option Data) (named : Option ℕ) (metric : ℕ) (part : Metric) (sample : Sample)
    → named ≡ index_of_name name (map (λ metric. metric.name) opened.metrics) → Ok metric ≡ ok_or named (UnknownMetric number) → slice_get opened.metrics metric ≡ Some part → sample ≡ sample_of part.shape found
    → measured_of opened number run name found ≡ Ok (entry_of run (measure metric sample))
measured_by opened number run name found (Some other) metric part sample named is at reads =
    let same : other ≡ metric = cc in
    rw (← named, same, at, reads) refl
measured_by opened number run name found None metric part sample named is at reads = absurd cc
