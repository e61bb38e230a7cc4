-- One item after another.
use Rattle.std.proofs.Common.{◌≡◌, Bool, true, false, ℕ, ◌+◌, ◌≤◌, ◌<◌, List, [], ◌∷◌, ◌++◌, length, drop, map, get_or, sym, ◌∙◌, ap, Result, Ok, Err}
use Rattle.std.proofs.lemmas.List.{drop_all, drop_more}
use Rattle.ar_value.specs.Answer.{◌>>=◌, Unless, each_after}

-- a refusal that isn't out of memory leads to another
pub leads : {P Q : Type 0} (memory : Bool) → (P → Q) → Unless memory P → Unless memory Q
leads true f h = tt
leads false f h = f h

-- the refusal that is defined may be returned
pub refuses_same : {A E : Type 0} (memory : Bool) (refusal : E) (answer : Result A E) → answer ≡ Err refusal → Unless memory (answer ≡ Err refusal)
refuses_same true refusal answer e = tt
refuses_same false refusal answer e = e

-- a refusal of the first of two steps is one of both
pub refuses_first : {A B E : Type 0} (memory : Bool) (refusal : E) (first : Result A E) (second : A → Result B E) (both : Result B E)
    → Unless memory (first ≡ Err refusal) → first >>= second ≡ both → Unless memory (both ≡ Err refusal)
refuses_first memory refusal first second both h e = leads memory (λ refused. sym e ∙ ap (λ answer. answer >>= second) refused) h

module _ {J A B E : Type 0} (view : J → A) (step : List B → A → Result B E) (list : List J) (i : ℕ) (earlier : List B) (all : Result (List B) E) where
  -- the item at i is the next
  each_after-item : (item : J) → i < length list → item ≡ get_or list i item
      → each_after step earlier (map view (drop i list)) ≡ (step earlier (view item) >>= λ made. each_after step (earlier ++ made ∷ []) (map view (drop (i + 1) list)))
  unfolding each_after
  each_after-item item below is = ap (λ rest. each_after step earlier (map view rest)) (drop_more list i item below ∙ ap (λ (first : J). first ∷ drop (i + 1) list) (sym is))

  -- it becomes what the step makes of it
  pub step_more : (item : J) (made : B) (later : List B) → i < length list → item ≡ get_or list i item → step earlier (view item) ≡ Ok made → later ≡ earlier ++ made ∷ []
      → each_after step earlier (map view (drop i list)) ≡ all → each_after step later (map view (drop (i + 1) list)) ≡ all
  step_more item made later below is makes pushed so_far =
      ap (λ after. each_after step after (map view (drop (i + 1) list))) pushed
      ∙ sym (ap (λ answer. answer >>= λ next. each_after step (earlier ++ next ∷ []) (map view (drop (i + 1) list))) makes)
      ∙ sym (each_after-item item below is) ∙ so_far

  -- or is refused, and so are all
  pub step_fault : (memory : Bool) (item : J) (refusal : E) → i < length list → item ≡ get_or list i item → Unless memory (step earlier (view item) ≡ Err refusal)
      → each_after step earlier (map view (drop i list)) ≡ all → Unless memory (all ≡ Err refusal)
  step_fault memory item refusal below is refused so_far = refuses_first memory refusal (step earlier (view item)) _ all refused (sym (each_after-item item below is) ∙ so_far)

  -- after the last item all are made
  pub step_end : (made : List B) → length list ≤ i → made ≡ earlier → each_after step earlier (map view (drop i list)) ≡ all → all ≡ Ok made
  unfolding each_after
  step_end made past is so_far = sym so_far ∙ ap (λ rest. each_after step earlier (map view rest)) (drop_all i list past) ∙ ap (λ (items : List B). Ok items) (sym is)
