-- The first metric, where it is refused.
use Rattle.std.proofs.Common.{◌≡◌, ℕ, ◌≤◌, Bool, List, ◌∷◌, length, get_or, sym, ◌∙◌, ap, arith, Ok, Err}
use Rattle.ar_manifest.specs.Binding.{RunArguments}
use Rattle.ar_manifest.specs.Bound.{bound_metric}
use Rattle.ar_manifest.specs.Private.Within.{kept_bound}
use Rattle.ar_manifest.specs.Template.{TemplateArguments}
use Rattle.ar_manifest.specs.declared.bound.BoundMetric.{BoundMetric}
use Rattle.ar_manifest.specs.declared.error.ManifestError.{ManifestError}
use Rattle.ar_manifest.specs.declared.template.Metric.{Metric}
use Rattle.ar_manifest.proofs.Parts.{kept_refused}

module _ (arguments : TemplateArguments) (own : RunArguments) (list : List Metric) where
  -- none is bound before a first metric that is refused
  abbrev pub StaysAtFirst : ℕ → Type 0
  StaysAtFirst i = (first : Metric) (rest : List Metric) → list ≡ first ∷ rest → (refusal : ManifestError) → bound_metric arguments own 0 first ≡ Err refusal → i ≡ 0

  module _ (i : ℕ) (stays : StaysAtFirst i) where
    module _ (item : Metric) (number : ℕ) (is_number : number ≡ i) (is_item : item ≡ get_or list i item) (first : Metric) (rest : List Metric) (is_list : list ≡ first ∷ rest)
        (refusal : ManifestError) (refused : bound_metric arguments own 0 first ≡ Err refusal) where
      pub at_first : item ≡ first
      at_first = is_item ∙ ap (λ index. get_or list index item) (stays first rest is_list refusal refused) ∙ ap (λ metrics. get_or metrics 0 item) is_list

      pub refused_item : bound_metric arguments own number item ≡ Err refusal
      refused_item = ap (λ index. bound_metric arguments own index item) (is_number ∙ stays first rest is_list refusal refused) ∙ ap (bound_metric arguments own 0) at_first ∙ refused

    -- a metric that is bound was no refused first one
    pub bound_first : (shortens : Bool) (item : Metric) (number : ℕ) (made : BoundMetric) → number ≡ i → item ≡ get_or list i item → kept_bound arguments own number shortens item ≡ Ok made
        → (first : Metric) (rest : List Metric) → list ≡ first ∷ rest → (refusal : ManifestError) → bound_metric arguments own 0 first ≡ Err refusal → ⊥
    bound_first shortens item number made is_number is_item is_made first rest is_list refusal refused =
        let is_refused = kept_refused arguments own number item shortens refusal (refused_item item number is_number is_item first rest is_list refusal refused) in
        let impossible : Ok made ≡ Err refusal = sym is_made ∙ is_refused in cc

    -- past the last metric none was refused
    pub none_first : length list ≤ i → (first : Metric) (rest : List Metric) → list ≡ first ∷ rest → (refusal : ManifestError) → bound_metric arguments own 0 first ≡ Err refusal → ⊥
    none_first past first rest is_list refusal refused =
        let at_zero = stays first rest is_list refusal refused in
        let some : length list ≡ length (first ∷ rest) = ap length is_list in
        omega (arith, at_zero, some, past)
