-- One item of a document after another: items are seen by a view, and so is what is made of them.
use Rattle.std.proofs.Common.{◌≡◌, ℕ, ◌+◌, ◌≤◌, ◌<◌, List, [], ◌∷◌, ◌++◌, length, drop, map, get_or, refl, sym, ◌∙◌, ap, arith, Result, Ok, Err}
use Rattle.std.proofs.lemmas.List.{map-append, map-id}
use Rattle.ar_value.specs.Answer.{◌>>=◌, Unless, each_after}
use Rattle.ar_value.proofs.Steps as steps
use Rattle.ar_document.specs.Document.{is_bundle_memory}
use Rattle.ar_document.specs.declared.error.BundleError.{BundleError}

module _ {J A C B : Type 0} (view : J → A) (made_view : C → B) (step : List B → A → Result B BundleError) (list : List J) (i : ℕ) (earlier : List C) (all : Result (List B) BundleError) where
  -- the item at i becomes what the step makes of it
  pub step_more : (item : J) (made : C) (later : List C) → i < length list → item ≡ get_or list i item → step (map made_view earlier) (view item) ≡ Ok (made_view made) → later ≡ earlier ++ made ∷ []
      → each_after step (map made_view earlier) (map view (drop i list)) ≡ all → each_after step (map made_view later) (map view (drop (i + 1) list)) ≡ all
  step_more item made later below is makes pushed =
      steps.step_more view step list i (map made_view earlier) all item (made_view made) (map made_view later) below is makes (ap (map made_view) pushed ∙ map-append made_view earlier (made ∷ []))

  -- or is refused, and so are all
  pub step_fault : (item : J) (refusal : BundleError) → i < length list → item ≡ get_or list i item → Unless (is_bundle_memory refusal) (step (map made_view earlier) (view item) ≡ Err refusal)
      → each_after step (map made_view earlier) (map view (drop i list)) ≡ all → Unless (is_bundle_memory refusal) (all ≡ Err refusal)
  step_fault item refusal = steps.step_fault view step list i (map made_view earlier) all (is_bundle_memory refusal) item refusal

  -- after the last item all are made
  pub step_end : length list ≤ i → each_after step (map made_view earlier) (map view (drop i list)) ≡ all → all ≡ Ok (map made_view earlier)
  step_end past = steps.step_end view step list i (map made_view earlier) all (map made_view earlier) past refl

nothing_in : {A : Type 0} (items : List A) → length items ≡ 0 → items ≡ []
nothing_in [] none = refl
nothing_in (item ∷ items) none = absurd (omega (arith, none))

-- Of a list of which each item is dropped after its step, what is left.
module _ {J A C B : Type 0} (view : J → A) (made_view : C → B) (step : List B → A → Result B BundleError) (left : List J) (earlier : List C) (all : Result (List B) BundleError) where
  -- the first becomes what the step makes of it
  pub next_more : (item : J) (others : List J) (made : C) (later : List C) → left ≡ item ∷ others → step (map made_view earlier) (view item) ≡ Ok (made_view made) → later ≡ earlier ++ made ∷ []
      → each_after step (map made_view earlier) (map view left) ≡ all → each_after step (map made_view later) (map view others) ≡ all
  unfolding each_after
  next_more item others made later is makes pushed so_far =
      ap (λ after. each_after step after (map view others)) (ap (map made_view) pushed ∙ map-append made_view earlier (made ∷ []))
      ∙ sym (ap (λ answer. answer >>= λ next. each_after step (map made_view earlier ++ next ∷ []) (map view others)) makes)
      ∙ sym (ap (λ rest. each_after step (map made_view earlier) (map view rest)) is) ∙ so_far

  -- or is refused, and so are all
  pub next_fault : (item : J) (others : List J) (refusal : BundleError) → left ≡ item ∷ others → Unless (is_bundle_memory refusal) (step (map made_view earlier) (view item) ≡ Err refusal)
      → each_after step (map made_view earlier) (map view left) ≡ all → Unless (is_bundle_memory refusal) (all ≡ Err refusal)
  unfolding each_after
  next_fault item others refusal is refused so_far =
      steps.refuses_first (is_bundle_memory refusal) refusal (step (map made_view earlier) (view item)) (λ next. each_after step (map made_view earlier ++ next ∷ []) (map view others)) all refused
      (sym (ap (λ rest. each_after step (map made_view earlier) (map view rest)) is) ∙ so_far)

  -- where nothing is left all are made
  pub none_left : length left ≡ 0 → each_after step (map made_view earlier) (map view left) ≡ all → all ≡ Ok (map made_view earlier)
  unfolding each_after
  none_left none so_far = sym so_far ∙ ap (λ rest. each_after step (map made_view earlier) (map view rest)) (nothing_in left none)

-- what is made is seen as it is
pub as_it_is : {B : Type 0} (all : Result (List B) BundleError) (made : List B) → all ≡ Ok (map (λ x. x) made) → all ≡ Ok made
as_it_is {B = B} all made is = is ∙ ap (λ (made : List B). Ok made) (map-id made)
