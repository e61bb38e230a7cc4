-- One item of a template after another.
use Rattle.std.proofs.Common.{◌≡◌, ℕ, ◌+◌, ◌≤◌, ◌<◌, List, [], ◌∷◌, ◌++◌, length, drop, map, get_or, Result, Ok, Err}
use Rattle.ar_value.specs.Answer.{Unless, each_after}
use Rattle.ar_value.proofs.Steps as steps
use Rattle.ar_manifest.specs.Refusals.{is_memory}
use Rattle.ar_manifest.specs.declared.error.ManifestError.{ManifestError}

-- the refusal that is defined may be returned
pub refuses_same : {A : Type 0} (refusal : ManifestError) (answer : Result A ManifestError) → answer ≡ Err refusal → Unless (is_memory refusal) (answer ≡ Err refusal)
refuses_same refusal = steps.refuses_same (is_memory refusal) refusal

module _ {J A B : Type 0} (view : J → A) (step : List B → A → Result B ManifestError) (list : List J) (i : ℕ) (earlier : List B) (all : Result (List B) ManifestError) where
  -- the item at i becomes what the step makes of it
  pub step_more : (item : J) (made : B) (later : List B) → i < length list → item ≡ get_or list i item → step earlier (view item) ≡ Ok made → later ≡ earlier ++ made ∷ []
      → each_after step earlier (map view (drop i list)) ≡ all → each_after step later (map view (drop (i + 1) list)) ≡ all
  step_more = steps.step_more view step list i earlier all

  -- or is refused, and so are all
  pub step_fault : (item : J) (refusal : ManifestError) → i < length list → item ≡ get_or list i item → Unless (is_memory refusal) (step earlier (view item) ≡ Err refusal)
      → each_after step earlier (map view (drop i list)) ≡ all → Unless (is_memory refusal) (all ≡ Err refusal)
  step_fault item refusal = steps.step_fault view step list i earlier all (is_memory refusal) item refusal

  -- after the last item all are made
  pub step_end : (made : List B) → length list ≤ i → made ≡ earlier → each_after step earlier (map view (drop i list)) ≡ all → all ≡ Ok made
  step_end = steps.step_end view step list i earlier all
