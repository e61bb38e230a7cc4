-- What led to events is said alike where of their document the measurements that gave no value are kept.
use Rattle.std.proofs.Common.{◌≡◌, ℕ, suc, true, if◌then◌else◌, List, [], ◌∷◌, ◌++◌, map, codes, Option, Some, None, option_and_then, Result, Ok, Err, refl, sym, ap, ap₂, ◌∙◌, subst}
use Rattle.std.specs.Prelude.{slice_get}
use Rattle.serde_json.specs.Data.{Data}
use Rattle.serde_json.specs.Find.{get}
use Rattle.ar_misfit.specs.Misfit.{Misfit}
use Rattle.ar_json.specs.Document.{json_in}
use Rattle.ar_json.specs.declared.document.JsonError.{JsonError}
use Rattle.ar_judge.specs.Verdict.{Sample, measured, misfit, provider, sample_view}
use Rattle.ar_limits.specs.Run.{metric_counts, metric_phases, run_phase}
use Rattle.ar_bundle.specs.Bundle.{Bundle, events_of}
use Rattle.ar_bundle.specs.Lawful.{numbers_of}
use Rattle.ar_bundle.specs.declared.bundle.EventPart.{EventPart}
use Rattle.ar_bundle.specs.declared.bundle.RunPart.{RunPart}
use Rattle.ar_bundle.specs.declared.bundle.What.{What}
use Rattle.ar_bundle.specs.declared.bundle.What.TheVariants.{Measure, Stop}
use Rattle.ar_bundle.specs.declared.history.Entry.{Entry}
use Rattle.ar_document.specs.Document.{FollowsJson, ReadsInput}
use Rattle.ar_document.specs.Unmeasured.{IsNoDocument, KeepsUnmeasured, lacks_value, is_unmeasured_there, measurement_at, gave_no_value}
use Rattle.ar_document.specs.declared.error.BundleError.{BundleError}
use Rattle.ar_facts.specs.Facts.{event_facts, facts_of_metrics}
use Rattle.ar_reason.specs.Reason.{Given, Reason, RunReasons, conditions_of, error_given, given_by, given_unfit, given_of, lacks_conditions, misfit_there, reason_if_there, reason_of, reason_with, reasons_from, reasons_of, run_reasons}
use Rattle.ar_progress.specs.Steps.{chosen_steps, closer_of, is_chosen_run}
use Rattle.ar_progress.specs.declared.chosen.Chosen.{Chosen}
use Rattle.ar_progress.specs.declared.steps.Step.{Step}

-- a document is looked at only where there is no value
given_alike : (unfit other : Option Misfit) (error also : Given) (sample : Sample) → (lacks_value sample ≡ true → (unfit ≡ other) × (error ≡ also)) → given_by unfit error sample ≡ given_by other also sample
given_alike unfit other error also provider same = (same refl).1
given_alike unfit other error also (misfit fault) same = ap given_unfit (same refl).0
given_alike unfit other error also (measured found) same = refl

module _ (bundle : Bundle) (document kept : Data) (keeps : KeepsUnmeasured bundle document kept) where
  same_given : (number : ℕ) (what : What) → (gave_no_value what ≡ true → measurement_at kept number ≡ measurement_at document number)
      → given_of kept bundle number what ≡ given_of document bundle number what
  same_given number (Measure metric sample) same =
      given_alike _ _ _ _ (sample_view sample)
      (λ is. (
        ap (λ found. misfit_there (option_and_then (get (codes "value")) found) (slice_get bundle.metrics metric)) (same is),
        ap (λ found. error_given (option_and_then (get (codes "error")) found)) (same is),
      ))
  same_given number Stop same = refl

  same_there : (step : Step) (there : Option EventPart) → slice_get bundle.entries step.entry.number ≡ there → reason_if_there kept bundle step there ≡ reason_if_there document bundle step there
  same_there step (Some part) is =
      ap (λ given. reason_with (event_facts bundle step.entry.number step.entry.effect) given (conditions_of bundle part.run part.what) (lacks_conditions bundle part.run part.what) step)
      (same_given step.entry.number part.what (λ unfit. keeps.same step.entry.number (ap is_unmeasured_there is ∙ unfit)))
  same_there step None is = refl

  same_each : (steps : List Step) → map (reason_of kept bundle) steps ≡ map (reason_of document bundle) steps
  same_each [] = refl
  same_each (step ∷ steps) = ap₂ (λ (first : Reason) others. first ∷ others) (same_there step (slice_get bundle.entries step.entry.number) refl) (same_each steps)

  abbrev run_with : RunPart → List Entry → List Reason → RunReasons
  run_with run history reasons = record {
    name = run.name;
    phase = run_phase run.limits (events_of bundle (numbers_of history));
    closer = closer_of history;
    reasons = reasons;
    metrics = facts_of_metrics bundle.metrics run.limits (metric_phases run.limits (events_of bundle (numbers_of history))) (metric_counts run.limits (events_of bundle (numbers_of history)));
  }

  same_run : (chosen : Chosen) (run : RunPart) (history : List Entry) → run_reasons kept bundle chosen run history ≡ run_reasons document bundle chosen run history
  same_run chosen run history = ap (run_with run history) (same_each (chosen_steps bundle chosen run.limits history))

  same_from : (chosen : Chosen) (from : ℕ) (runs : List RunPart) (histories : List (List Entry)) → reasons_from kept bundle chosen from runs histories ≡ reasons_from document bundle chosen from runs histories
  same_from chosen from [] histories = refl
  same_from chosen from (run ∷ runs) [] = refl
  same_from chosen from (run ∷ runs) (history ∷ histories) =
      ap₂ (λ (first : RunReasons) others. (if is_chosen_run bundle chosen from history then first ∷ [] else []) ++ others) (same_run chosen run history) (same_from chosen (suc from) runs histories)

  pub same_reasons : (chosen : Chosen) (histories : List (List Entry)) → reasons_of kept bundle chosen histories ≡ reasons_of document bundle chosen histories
  same_reasons chosen histories = same_from chosen 0 bundle.runs histories

-- what a bundle is read of is a document
is_document : (bundle : Bundle) (found : Result Data JsonError) → FollowsJson found (Ok bundle) → (document : Data) × (found ≡ Ok document)
is_document bundle (Ok document) follows = (document, refl)
is_document bundle (Err error) follows = absurd (cc)

pub document_of : (input : List ℕ) (bundle : Bundle) → ReadsInput input (Ok bundle) → (document : Data) × (json_in input ≡ Ok document)
document_of input bundle reads = is_document bundle (json_in input) reads.follows

-- and what is no document is refused
pub refused_input : (input : List ℕ) (error : BundleError) → IsNoDocument input error → ReadsInput input (Err error)
refused_input input error none = record {
  follows = subst (λ (found : Result Data JsonError). FollowsJson found (Err error)) (sym none.is_none) (ap Err none.named);
}
