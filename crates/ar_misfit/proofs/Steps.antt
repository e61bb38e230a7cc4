-- The steps of a path, one after another: as texts and as objects.
use Rattle.std.proofs.Common.{◌≡◌, ◌<◌, ◌≤◌, ℕ, suc, ◌+◌, List, [], ◌∷◌, ◌++◌, drop, flat_map, length, map, ap, sym, ◌∙◌, add-one, append_assoc, append-nil, drop-cons}
use Rattle.std.specs.Prelude.{slice_index_or}
use Rattle.std.proofs.Math.ListN.{drop_of_length-le}
use Rattle.serde_json.specs.Data.{Data}
use Rattle.ar_object.proofs.Texts.{Remains, next_value, none_remains}
use Rattle.ar_object.specs.Written.{AddsValue, AddsValues, Output}
use Rattle.ar_misfit.specs.Misfit.{Step}
use Rattle.ar_misfit.specs.MisfitData.{step_data}
use Rattle.ar_misfit.specs.Views.{step_view}
use Rattle.ar_misfit.specs.declared.misfit.Step.{Step as StepCode}

abbrev pub left : List StepCode → (index : ℕ) → List Step
left path index = map step_view (drop index path)

step_read : (path : List StepCode) (index : ℕ) (x : StepCode) → index < length path → x ≡ slice_index_or path index x → left path index ≡ step_view x ∷ left path (index + 1)
step_read path index x inside read = rw add-one (ap (map step_view) (drop-cons path index x inside ∙ ap (λ y. y ∷ drop (suc index) path) (sym read)))

none_left : (path : List StepCode) (index : ℕ) → length path ≤ index → left path index ≡ []
none_left path index past = ap (map step_view) (drop_of_length-le path past)

pub next_text : (text : Step → List ℕ) (path : List StepCode) (index : ℕ) (x : StepCode) (written total : List ℕ) → index < length path → x ≡ slice_index_or path index x → written ++ flat_map text (left path index) ≡ total → (written ++ text (step_view x)) ++ flat_map text (left path (index + 1)) ≡ total
next_text text path index x written total inside read so_far =
    append_assoc written (text (step_view x)) (flat_map text (left path (index + 1))) ∙ ap (λ steps. written ++ flat_map text steps) (sym (step_read path index x inside read)) ∙ so_far

pub no_text_left : (text : Step → List ℕ) (path : List StepCode) (index : ℕ) (written total : List ℕ) → length path ≤ index → written ++ flat_map text (left path index) ≡ total → written ≡ total
no_text_left text path index written total past so_far =
    sym (append-nil written) ∙ ap (λ steps. written ++ flat_map text steps) (sym (none_left path index past)) ∙ so_far

pub next_object : (path : List StepCode) (index : ℕ) (x : StepCode) (all : List Data) (start now next : Output) → index < length path → x ≡ slice_index_or path index x → AddsValue (step_data (step_view x)) now next
    → Remains (map step_data (left path index)) all start now → Remains (map step_data (left path (index + 1))) all start next
next_object path index x all start now next inside read adds remains =
    next_value step_data _ _ (step_view x) all start now next (step_read path index x inside read) adds remains

pub no_object_left : (path : List StepCode) (index : ℕ) (all : List Data) (start now : Output) → length path ≤ index → Remains (map step_data (left path index)) all start now → AddsValues all start now
no_object_left path index all start now past remains = none_remains step_data _ all start now (none_left path index past) remains
