-- Objects of diagnostics have no float, and none is deep.
use Rattle.std.proofs.Common.{◌≡◌, ◌<◌, ◌≤◌, ℕ, suc, ◌+◌, max, false, List, [], ◌∷◌, ◌++◌, length, map, drop, Option, Some, None, option_and_then, option_map, refl, sym, ◌∙◌, ap, add-one, drop-cons, arith}
use Rattle.std.specs.Prelude.{slice_index_or}
use Rattle.std.proofs.Math.ListN.{drop_of_length-le}
use Rattle.std.proofs.lemmas.List.{append-nil, append_assoc, map_push}
use Rattle.serde_json.specs.View.{view}
use Rattle.serde_json.specs.declared.value.Value.{Value}
use Rattle.std.proofs.Math.Nat.{max-le}
use Rattle.serde_json.specs.Data.{Data, depth}
use Rattle.serde_json.specs.Read.{max_depth}
use Rattle.serde_json.specs.Written.{has_float}
use Rattle.ar_object.proofs.Values.{above, count_exact, count_flat, few, none_deep, none_float, text_exact, text_flat}
use Rattle.ar_diagnostic.specs.Diagnostic.{refusal_text_of, warning_text_of}
use Rattle.ar_diagnostic.specs.DiagnosticData.{place_argument, diagnostic_with, place_entry, expected_words, place_field, item_or_null, place_metric, place_data, position_data, refusal_data, place_run, warning_data, warnings_data}
use Rattle.ar_diagnostic.specs.Place.{pointer}
use Rattle.ar_diagnostic.specs.declared.diagnostic.Diagnostic.{Diagnostic}
use Rattle.ar_diagnostic.specs.declared.diagnostic.Position.{Position}
use Rattle.ar_diagnostic.specs.declared.diagnostic.Position.TheVariants.{End, At}
use Rattle.ar_diagnostic.specs.declared.diagnostic.Spot.{Spot}
use Rattle.ar_diagnostic.specs.declared.place.Item.{Item}
use Rattle.ar_diagnostic.specs.declared.place.Place.{Place}

item_exact : (found : Option Item) → has_float (item_or_null found) ≡ false
item_exact (Some item) = rw (text_exact item.name) refl
item_exact None = refl

place_exact : (place : Place) (spot : Option Spot) → has_float (place_data place spot) ≡ false
unfolding place_data
place_exact place spot =
    rw (item_exact (place_argument place), count_exact (place_entry place), text_exact (option_and_then (λ (spot : Spot). spot.excerpt) spot), text_exact (place_field place), item_exact (place_metric place), count_exact (option_map (λ (spot : Spot). spot.offset) spot), item_exact (place_run place)) refl

position_exact : (position : Option Position) → has_float (position_data position) ≡ false
position_exact None = refl
position_exact (Some End) = refl
position_exact (Some (At line column)) = refl

with_exact : (line : List ℕ) (it : Diagnostic) → has_float (diagnostic_with line it) ≡ false
unfolding diagnostic_with
with_exact line it =
    rw (text_exact (option_map expected_words it.expected), text_exact it.found, text_exact it.hint, place_exact it.place it.spot, text_exact (pointer it.place), position_exact it.position) refl

pub refusal_exact : (it : Diagnostic) → has_float (refusal_data it) ≡ false
unfolding refusal_data
refusal_exact it = rw (with_exact (refusal_text_of it) it) refl

pub warnings_exact : (warnings : List Diagnostic) → has_float (warnings_data warnings) ≡ false
unfolding warnings_data
warnings_exact warnings = rw (none_float warning_data (λ it. with_exact (warning_text_of it) it) warnings) refl

-- ---- and none is deep

item_flat : (found : Option Item) → depth (item_or_null found) ≤ 1
item_flat (Some item) = rw (text_flat item.name) (omega arith)
item_flat None = omega arith

three : {a b c : ℕ} → a ≤ 1 → b ≤ 1 → c ≤ 1 → suc (max a (max 0 (max 0 (max 0 (max b (max 0 (max 0 (max c 0)))))))) ≤ 2
three one two last =
    let none : 0 ≤ 1 = omega arith in
    above (max-le one (max-le none (max-le none (max-le none (max-le two (max-le none (max-le none (max-le last none))))))))

place_flat : (place : Place) (spot : Option Spot) → depth (place_data place spot) ≤ 2
unfolding place_data
place_flat place spot =
    rw (count_flat (place_entry place), text_flat (option_and_then (λ (spot : Spot). spot.excerpt) spot), text_flat (place_field place), count_flat (option_map (λ (spot : Spot). spot.offset) spot)) (three (item_flat (place_argument place)) (item_flat (place_metric place)) (item_flat (place_run place)))

position_flat : (position : Option Position) → depth (position_data position) ≤ 2
position_flat None = omega arith
position_flat (Some End) = omega arith
position_flat (Some (At line column)) = omega arith

two : {a b : ℕ} → a ≤ 2 → b ≤ 2 → suc (max 0 (max 0 (max 0 (max 0 (max a (max 0 (max b (max 0 0)))))))) ≤ 3
two one last =
    let none : 0 ≤ 2 = omega arith in
    above (max-le none (max-le none (max-le none (max-le none (max-le one (max-le none (max-le last (max-le none none))))))))

with_flat : (line : List ℕ) (it : Diagnostic) → depth (diagnostic_with line it) ≤ 3
unfolding diagnostic_with
with_flat line it =
    rw (text_flat (option_map expected_words it.expected), text_flat it.found, text_flat it.hint, text_flat (pointer it.place)) (two (place_flat it.place it.spot) (position_flat it.position))

pub refusal_flat : (it : Diagnostic) → depth (refusal_data it) ≤ max_depth
unfolding refusal_data
refusal_flat it =
    let inner = with_flat (refusal_text_of it) it in
    let none : 0 ≤ 9 = omega arith in
    few (above (max-le (omega arith) (max-le none none)))

pub warnings_flat : (warnings : List Diagnostic) → depth (warnings_data warnings) ≤ max_depth
unfolding warnings_data
warnings_flat warnings =
    let none : 0 ≤ 9 = omega arith in
    few (above (max-le none (max-le (above (none_deep warning_data 8 (λ it. let less = with_flat (warning_text_of it) it in omega arith) warnings)) none)))

-- ---- warnings, one after another

pub next_warning : (warnings : List Diagnostic) (index : ℕ) (warning : Diagnostic) (found : List Value) (new : Value) (total : List Data) → index < length warnings → warning ≡ slice_index_or warnings index warning → view new ≡ warning_data warning
    → map view found ++ map warning_data (drop index warnings) ≡ total → map view (found ++ new ∷ []) ++ map warning_data (drop (index + 1) warnings) ≡ total
next_warning warnings index warning found new total inside read is so_far =
    rw (add-one index)
    (ap (λ front. front ++ map warning_data (drop (suc index) warnings)) (map_push view found new)
    ∙ (append_assoc (map view found) (view new ∷ []) (map warning_data (drop (suc index) warnings))
    ∙ (ap (λ object. map view found ++ object ∷ map warning_data (drop (suc index) warnings)) is
    ∙ (ap (λ left. map view found ++ map warning_data left) (sym (drop-cons warnings index warning inside ∙ ap (λ first. first ∷ drop (suc index) warnings) (sym read))) ∙ so_far))))

pub no_warning : (warnings : List Diagnostic) (index : ℕ) (found : List Value) (total : List Data) → length warnings ≤ index → map view found ++ map warning_data (drop index warnings) ≡ total → map view found ≡ total
no_warning warnings index found total past so_far =
    sym (append-nil (map view found)) ∙ (ap (λ left. map view found ++ map warning_data left) (sym (drop_of_length-le warnings past)) ∙ so_far)
