-- Lists, one element after another: as texts and as objects.
use Rattle.std.proofs.Common.{◌≡◌, ◌<◌, ◌≤◌, ℕ, ◌+◌, List, ◌++◌, drop, flat_map, length, map, ap, sym, ◌∙◌, subst, append_assoc}
use Rattle.std.specs.Prelude.{slice_index_or}
use Rattle.serde_json.specs.Data.{Data}
use Rattle.ar_facts.proofs.Lines.{no_more, none_left, one_more, read_at}
use Rattle.std.proofs.lemmas.List.{map-append}
use Rattle.std.proofs.lemmas.List.Concat.{flat_map-append}
use Rattle.ar_object.proofs.Texts.{Remains, next_value, none_remains, then_values}
use Rattle.ar_object.specs.Written.{AddsValue, AddsValues, Output}
use Rattle.ar_explain.specs.Views.{line_view}
use Rattle.ar_explain.specs.declared.explanation.Line.{Line}
use Rattle.ar_evaluation.specs.EvaluatedData.{part_data}
use Rattle.ar_evaluation.specs.EvaluatedText.{item_text, part_line}

-- ---- texts

-- of elements that are seen by a view
pub next_text : {A B : Type 0} (seen : A → B) (text : B → List ℕ) (xs : List A) (index : ℕ) (x : A) (written total : List ℕ) → index < length xs → x ≡ slice_index_or xs index x → written ++ flat_map text (map seen (drop index xs)) ≡ total → (written ++ text (seen x)) ++ flat_map text (map seen (drop (index + 1) xs)) ≡ total
next_text seen text xs index x written total inside read so_far =
    one_more text _ _ (seen x) written total (ap (map seen) (read_at xs index x inside read)) so_far

pub no_text_left : {A B : Type 0} (seen : A → B) (text : B → List ℕ) (xs : List A) (index : ℕ) (written total : List ℕ) → length xs ≤ index → written ++ flat_map text (map seen (drop index xs)) ≡ total → written ≡ total
no_text_left seen text xs index written total past so_far =
    no_more text (map seen (drop index xs)) written total (ap (map seen) (none_left xs index past)) so_far

pub next_item : (items : List ℕ) (index : ℕ) (x : ℕ) (written total : List ℕ) → index < length items → x ≡ slice_index_or items index x → written ++ flat_map item_text (drop index items) ≡ total → (written ++ item_text x) ++ flat_map item_text (drop (index + 1) items) ≡ total
next_item items index x written total inside read so_far = one_more item_text _ _ x written total (read_at items index x inside read) so_far

pub no_item_left : (items : List ℕ) (index : ℕ) (written total : List ℕ) → length items ≤ index → written ++ flat_map item_text (drop index items) ≡ total → written ≡ total
no_item_left items index written total past so_far = no_more item_text (drop index items) written total (none_left items index past) so_far

pub next_line : (lines : List Line) (index : ℕ) (line : Line) (written total : List ℕ) → index < length lines → line ≡ slice_index_or lines index line → written ++ flat_map part_line (map line_view (drop index lines)) ≡ total → (written ++ part_line (line_view line)) ++ flat_map part_line (map line_view (drop (index + 1) lines)) ≡ total
next_line = next_text line_view part_line

pub no_line_left : (lines : List Line) (index : ℕ) (written total : List ℕ) → length lines ≤ index → written ++ flat_map part_line (map line_view (drop index lines)) ≡ total → written ≡ total
no_line_left = no_text_left line_view part_line

-- lines that are in two lists
pub two_texts : (first second lines : List Line) (old mid new : List ℕ) → first ++ second ≡ lines → mid ≡ old ++ flat_map part_line (map line_view first) → new ≡ mid ++ flat_map part_line (map line_view second)
    → new ≡ old ++ flat_map part_line (map line_view lines)
two_texts first second lines old mid new split one two =
    two ∙ ap (λ text. text ++ flat_map part_line (map line_view second)) one ∙ append_assoc old (flat_map part_line (map line_view first)) (flat_map part_line (map line_view second))
    ∙ ap (λ text. old ++ text)
    (sym (flat_map-append part_line (map line_view first) (map line_view second)) ∙ ap (flat_map part_line) (sym (map-append line_view first second) ∙ ap (map line_view) split))

-- ---- objects

-- of elements that are seen by a view
pub next_object : {A B : Type 0} (seen : A → B) (data_of : B → Data) (xs : List A) (index : ℕ) (x : A) (all : List Data) (start now next : Output) → index < length xs → x ≡ slice_index_or xs index x → AddsValue (data_of (seen x)) now next
    → Remains (map data_of (map seen (drop index xs))) all start now → Remains (map data_of (map seen (drop (index + 1) xs))) all start next
next_object seen data_of xs index x all start now next inside read adds remains =
    next_value data_of _ _ (seen x) all start now next (ap (map seen) (read_at xs index x inside read)) adds remains

pub no_object_left : {A B : Type 0} (seen : A → B) (data_of : B → Data) (xs : List A) (index : ℕ) (all : List Data) (start now : Output) → length xs ≤ index → Remains (map data_of (map seen (drop index xs))) all start now → AddsValues all start now
no_object_left seen data_of xs index all start now past remains = none_remains data_of _ all start now (ap (map seen) (none_left xs index past)) remains

abbrev parts_of : List Line → List Data
parts_of lines = map part_data (map line_view lines)

-- the first lines, and the last ones, which are in two lists
pub all_parts : (lines first second last : List Line) (start one two end : Output) → first ++ second ≡ last → AddsValues (map part_data (map line_view lines)) start one
    → AddsValues (map part_data (map line_view first)) one two → AddsValues (map part_data (map line_view second)) two end
    → AddsValues (map part_data (map line_view lines ++ map line_view last)) start end
all_parts lines first second last start one two end split adds more most =
    let are : map part_data (map line_view lines ++ map line_view last) ≡ parts_of lines ++ (parts_of first ++ parts_of second) =
    map-append part_data (map line_view lines) (map line_view last)
    ∙ ap (λ parts. parts_of lines ++ parts)
    (ap parts_of (sym split) ∙ ap (map part_data) (map-append line_view first second) ∙ map-append part_data (map line_view first) (map line_view second)) in
    subst (λ values. AddsValues values start end) (sym are) (then_values (parts_of lines) (parts_of first ++ parts_of second) start one end adds (then_values (parts_of first) (parts_of second) one two end more most))
