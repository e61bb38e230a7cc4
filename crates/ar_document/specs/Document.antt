-- The bundle of a document, or why it is none: the first fault, in the order in which its parts appear here.
use Rattle.std.specs.Prelude.{◌≡◌, Bool, true, false, List, map, codes, None, Result, Ok, Err}
use Rattle.ar_value.specs.Terms.{Bytes}
use Rattle.serde_json.specs.Data.{Data}
use Rattle.serde_json.specs.Find.{get}
use Rattle.ar_bundle.specs.Bundle.{Bundle}
use Rattle.ar_bundle.specs.declared.bundle.RunPart.{RunPart}
use Rattle.ar_document.specs.Entries.{entries_in, entry_view}
use Rattle.ar_json.specs.Document.{json_in}
use Rattle.ar_document.specs.Opening.{Opened, metric_view, opened_of}
use Rattle.ar_document.specs.Parts.{HaveParts, RefusesRuns}
use Rattle.ar_document.specs.declared.error.BundleError.{BundleError}
use Rattle.ar_document.specs.declared.error.BundleError.TheVariants as errors
use Rattle.ar_json.specs.declared.document.JsonError.{JsonError}
use Rattle.ar_json.specs.declared.document.JsonError.TheVariants as json_errors

-- this is the bundle of a document: its template's metrics, each run's part, and what its entries say
pub record IsBundleOf (document : Data) (bundle : Bundle) : Type 0 where
  pub opened : Opened
  pub opens : opened_of document ≡ Ok opened
  pub metrics : map metric_view bundle.metrics ≡ opened.metrics
  pub runs : HaveParts opened opened.runs bundle.runs
  pub entries : entries_in opened document ≡ Ok (map entry_view bundle.entries)

-- this is the first fault of a document
pub data IsFaultOf (document : Data) (error : BundleError) : Type 0 where
  -- of what comes before its runs are examined one by one
  of_opening : opened_of document ≡ Err error → IsFaultOf document error
  -- of a run
  of_run : (opened : Opened) → opened_of document ≡ Ok opened → RefusesRuns opened error → IsFaultOf document error
  -- of an entry, where all runs have their parts
  of_entry : (opened : Opened) → opened_of document ≡ Ok opened → (parts : List RunPart)
      → HaveParts opened opened.runs parts
      → entries_in opened document ≡ Err error → IsFaultOf document error

abbrev pub Reads : Data → Result Bundle BundleError → Type 0
Reads document (Ok bundle) = IsBundleOf document bundle
Reads document (Err error) = IsFaultOf document error

-- what comes before the entries of a document is the same in its head, which has no entries
pub record IsHeadOf (document head : Data) : Type 0 where
  pub manifest : get (codes "manifest") head ≡ get (codes "manifest") document
  pub shapes : get (codes "shapes") head ≡ get (codes "shapes") document
  pub runs : get (codes "runs") head ≡ get (codes "runs") document
  pub measurements : get (codes "measurements") head ≡ None

-- faults of JSON, as they are returned
abbrev pub bundle_json_error : JsonError → BundleError
bundle_json_error json_errors.TooLarge = errors.TooLarge
bundle_json_error json_errors.Utf8OrJson = errors.Utf8OrJson
bundle_json_error json_errors.OutOfMemory = errors.OutOfMemory

abbrev pub FollowsJson : Result Data JsonError → Result Bundle BundleError → Type 0
FollowsJson (Ok document) answer = Reads document answer
FollowsJson (Err error) answer = answer ≡ Err (bundle_json_error error)

-- what is read of an input: its bundle, or its first fault
pub record ReadsInput (input : Bytes) (answer : Result Bundle BundleError) : Type 0 where
  pub follows : FollowsJson (json_in input) answer

abbrev pub is_bundle_memory : BundleError → Bool
is_bundle_memory errors.OutOfMemory = true
is_bundle_memory error = false
