-- What is returned for a document.
use Rattle.std.proofs.Common.{◌≡◌, ◌≤◌, List, length, map, Result, Ok, Err, Vec, Global, refl, sym, subst, ap}
use Rattle.std.specs.Prelude.{IfOk}
use Rattle.std.specs.List.{AllByRecursion}
use Rattle.serde_json.specs.Data.{Data}
use Rattle.ar_value.specs.Answer.{Gives, Unless, UnlessMemory, IfRefused}
use Rattle.ar_value.proofs.Steps.{leads}
use Rattle.ar_value.specs.Limits.{most_runs}
use Rattle.ar_document.specs.Entries.{entries_in, entry_view}
use Rattle.ar_bundle.specs.Sound.{IsBundle, FitsBundle}
use Rattle.ar_limits.specs.Replay.{most_events}
use Rattle.ar_bundle.specs.Bundle.{bundle_of}
use Rattle.ar_bundle.specs.declared.bundle.EventPart.{EventPart}
use Rattle.ar_bundle.specs.declared.bundle.RunPart.{RunPart}
use Rattle.ar_document.specs.Document.{IsFaultOf, IsHeadOf, Reads, is_bundle_memory, of_entry, of_run}
use Rattle.ar_document.specs.Opening.{Opened as Parts, opened_of}
use Rattle.ar_document.specs.Private.Made.{both_of}
use Rattle.ar_document.specs.Private.Opened.{IsOpened, opened_view}
use Rattle.ar_document.specs.Parts.{HaveParts, RefusesRuns}
use Rattle.ar_document.specs.declared.error.BundleError.{BundleError}
use Rattle.ar_document.specs.declared.error.BundleError.TheVariants.{OutOfMemory}
use Rattle.ar_document.specs.declared.opening.Opened.{Opened}
use Rattle.ar_document.proofs.Bundling.{are_runs}
use Rattle.ar_document.proofs.Growing.{as_many_parts}

same : (one other : BundleError) → ◌≡◌ {A = Result (Vec RunPart Global × Vec EventPart Global) BundleError} (Err one) (Err other) → one ≡ other
same one other is = cc

-- a refusal that isn't out of memory, where it is the document's first fault
pub refuses : (document : Data) (error : BundleError) → Unless (is_bundle_memory error) (IsFaultOf document error) → UnlessMemory is_bundle_memory (Err error) (Reads document)
refuses document OutOfMemory fault = tt
refuses document error fault = fault

pub parts_are_bundle : (opened : Opened) (parts : List RunPart) (entries : List EventPart) → IsOpened opened → HaveParts (opened_view opened) opened.runs.items parts → length entries ≤ most_events
    → AllByRecursion (FitsBundle opened.metrics.items (length opened.runs.items)) entries → IsBundle (bundle_of opened.metrics.items parts entries)
parts_are_bundle opened parts entries is are few all =
    let many = as_many_parts (opened_view opened) opened.runs.items parts are in
    record {
      few_metrics = is.few_metrics;
      few_runs = subst (λ n. n ≤ most_runs) (sym many) is.few_runs;
      few_events = few;
      runs = are_runs opened opened.runs.items parts are;
      entries = subst (λ n. AllByRecursion (FitsBundle opened.metrics.items n) entries) (sym many) all;
    }

-- what refuses the parts or the entries of what was opened is the document's first fault
pub made_refused : (opened : Parts) (document : Data) → opened_of document ≡ Ok opened → (parts : Result (Vec RunPart Global) BundleError) (entries : Result (Vec EventPart Global) BundleError)
    → IfOk parts (λ parts. HaveParts opened opened.runs parts.items) → IfRefused is_bundle_memory parts (RefusesRuns opened) → Gives is_bundle_memory (λ (found : Vec EventPart Global). map entry_view found.items) entries (entries_in opened document)
    → (error : BundleError) → both_of parts entries ≡ Err error → Unless (is_bundle_memory error) (IsFaultOf document error)
made_refused opened document opens (Err refusal) entries have refused given error is =
    subst (λ (error : BundleError). Unless (is_bundle_memory error) (IsFaultOf document error)) (same refusal error is) (leads (is_bundle_memory refusal) (of_run opened opens) refused)
made_refused opened document opens (Ok parts) (Err refusal) have refused given error is =
    subst (λ (error : BundleError). Unless (is_bundle_memory error) (IsFaultOf document error)) (same refusal error is) (leads (is_bundle_memory refusal) (of_entry opened opens parts.items have) given)
made_refused opened document opens (Ok parts) (Ok entries) have refused given error is = absurd cc

pub both_made : {A B : Type 0} (first : Result A BundleError) (second : Result B BundleError) (both : A × B) → both_of first second ≡ Ok both → (first ≡ Ok both.0) × (second ≡ Ok both.1)
both_made {A = A} {B = B} (Ok one) (Ok other) both is =
    let same : ◌≡◌ {A = A × B} (one, other) both = cc in
    (ap (λ (both : A × B). Ok both.0) same, ap (λ (both : A × B). Ok both.1) same)
both_made (Ok one) (Err refusal) both is = absurd cc
both_made (Err refusal) second both is = absurd cc

-- a document and its head are opened alike
pub same_opening : (document head : Data) → IsHeadOf document head → opened_of head ≡ opened_of document
unfolding opened_of
same_opening document head is = rw (is.manifest, is.shapes, is.runs) refl
