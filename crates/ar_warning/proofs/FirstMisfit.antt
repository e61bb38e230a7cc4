-- The first warning of a metric's events, looked for one after another.
use Rattle.std.proofs.Common.{◌≡◌, ◌<◌, ◌≤◌, ℕ, suc, ◌+◌, List, [], ◌∷◌, ◌++◌, length, drop, take, Some, None, sym, ◌∙◌, ap, add-one}
use Rattle.std.specs.Prelude.{slice_index_or}
use Rattle.std.specs.Option.{option_map_or}
use Rattle.std.proofs.Math.ListN.{drop_of_length-le}
use Rattle.ar_bundle.specs.declared.bundle.EventPart.{EventPart}
use Rattle.ar_diagnostic.specs.declared.diagnostic.Diagnostic.{Diagnostic}
use Rattle.ar_json.specs.declared.value_reading.ShapeFault.{ShapeFault}
use Rattle.ar_warning.specs.Each.{each_from}
use Rattle.ar_warning.specs.Measurements.{event_misfit, fault_of_metric, misfit_warning}
use Rattle.ar_warning.proofs.Warned.{left_at}

module _ (metric : ℕ) (name : List ℕ) (events : List EventPart) (number : ℕ) (event : EventPart) (total : List Diagnostic) where
  -- the first among the events from here on is this event's, or comes after it
  first_of : number < length events → event ≡ slice_index_or events number event
      → take 1 (event_misfit metric name number event ++ each_from (event_misfit metric name) (suc number) (drop (suc number) events)) ≡ take 1 (each_from (event_misfit metric name) number (drop number events))
  first_of within is = sym (ap (λ left. take 1 (each_from (event_misfit metric name) number left)) (left_at events number event within is))

  pub first_misfit : (fault : ShapeFault) → number < length events → event ≡ slice_index_or events number event → fault_of_metric metric event.what ≡ Some fault
      → take 1 (each_from (event_misfit metric name) number (drop number events)) ≡ total → misfit_warning name number fault ∷ [] ≡ total
  first_misfit fault within is found so_far =
      sym (ap (λ found. take 1 (option_map_or (λ fault. misfit_warning name number fault ∷ []) found [] ++ each_from (event_misfit metric name) (suc number) (drop (suc number) events))) found)
      ∙ (first_of within is ∙ so_far)

  pub later_misfit : number < length events → event ≡ slice_index_or events number event → fault_of_metric metric event.what ≡ None
      → take 1 (each_from (event_misfit metric name) number (drop number events)) ≡ total → take 1 (each_from (event_misfit metric name) (number + 1) (drop (number + 1) events)) ≡ total
  later_misfit within is none so_far =
      rw (add-one number)
      (sym (ap (λ found. take 1 (option_map_or (λ fault. misfit_warning name number fault ∷ []) found [] ++ each_from (event_misfit metric name) (suc number) (drop (suc number) events))) none)
      ∙ (first_of within is ∙ so_far))

-- or there is none
pub no_misfit : (metric : ℕ) (name : List ℕ) (events : List EventPart) (number : ℕ) (total : List Diagnostic) → length events ≤ number
    → take 1 (each_from (event_misfit metric name) number (drop number events)) ≡ total → [] ≡ total
no_misfit metric name events number total past so_far =
    sym (ap (λ left. take 1 (each_from (event_misfit metric name) number left)) (drop_of_length-le events past)) ∙ so_far
