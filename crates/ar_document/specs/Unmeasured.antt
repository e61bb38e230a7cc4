-- The measurements of a document that gave no value of their metrics' shapes: the value doesn't fit, or the provider
-- failed.
use Rattle.std.specs.Prelude.{◌≡◌, ◌≢◌, Bool, true, false, codes, slice_get, Option, Some, None, option_and_then, Err}
use Rattle.ar_value.specs.Terms.{Bytes, Text}
use Rattle.serde_json.specs.Data.{Data, null}
use Rattle.serde_json.specs.Find.{at, get}
use Rattle.ar_json.specs.Document.{json_in}
use Rattle.ar_json.specs.declared.document.JsonError.{JsonError}
use Rattle.ar_judge.specs.Verdict.{Sample, measured, misfit, provider, sample_view}
use Rattle.ar_bundle.specs.Bundle.{Bundle}
use Rattle.ar_bundle.specs.Event.{EventNumber}
use Rattle.ar_bundle.specs.declared.bundle.EventPart.{EventPart}
use Rattle.ar_bundle.specs.declared.bundle.What.{What}
use Rattle.ar_bundle.specs.declared.bundle.What.TheVariants.{Measure, Stop}
use Rattle.ar_document.specs.Document.{bundle_json_error}
use Rattle.ar_document.specs.declared.error.BundleError.{BundleError}

abbrev pub lacks_value : Sample → Bool
lacks_value (misfit fault) = true
lacks_value provider = true
lacks_value (measured value) = false

abbrev pub gave_no_value : What → Bool
gave_no_value (Measure metric sample) = lacks_value (sample_view sample)
gave_no_value Stop = false

-- an entry is a measurement that gave no value of its metric's shape
abbrev pub is_unmeasured : EventPart → Bool
is_unmeasured entry = gave_no_value entry.what

abbrev pub is_unmeasured_there : Option EventPart → Bool
is_unmeasured_there (Some entry) = is_unmeasured entry
is_unmeasured_there None = false

-- the entry with a number is such a measurement
abbrev pub is_unmeasured_at : Bundle → (number : EventNumber) → Bool
is_unmeasured_at bundle number = is_unmeasured_there (slice_get bundle.entries number)

-- the measurement with a number, as a document has it
abbrev pub measurement_at : (document : Data) → (number : EventNumber) → Option Data
measurement_at document number = option_and_then (at number) (get (codes "measurements") document)

-- of a document's measurements, those that gave no value are kept, each at its place, and null is in place of the
-- others; of its other members nothing is kept
pub record KeepsUnmeasured (bundle : Bundle) (document kept : Data) : Type 0 where
  pub same : (number : EventNumber) → is_unmeasured_at bundle number ≡ true
      → measurement_at kept number ≡ measurement_at document number
  pub others : (number : EventNumber) → is_unmeasured_at bundle number ≡ false
      → (found : Data) → measurement_at kept number ≡ Some found → found ≡ null
  pub no_members : (name : Text) → name ≢ codes "measurements" → get name kept ≡ None

-- an input is no document, and is refused for that
pub record IsNoDocument (input : Bytes) (error : BundleError) : Type 0 where
  pub cause : JsonError
  pub is_none : json_in input ≡ Err cause
  pub named : error ≡ bundle_json_error cause
