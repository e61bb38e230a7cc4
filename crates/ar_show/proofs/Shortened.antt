-- The first items of a list and the first fields of a record, one after another.
use Rattle.std.proofs.Common.{◌≡◌, refl, sym, ap, ◌∙◌, ℕ, suc, ◌+◌, ◌-◌, ◌<◌, ◌≤◌, min, Bool, true, false, List, [], ◌∷◌, ◌++◌, length, map, drop, ◌⊎◌, inl, inr, arith, add-one, append_assoc, length-drop}
use Rattle.std.specs.Prelude.{◌==◌, codes, decimal, slice_index_or}
use Rattle.std.proofs.lemmas.Bool.{cases_lt}
use Rattle.std.proofs.lemmas.Bool.Decides.{nat_tests}
use Rattle.std.proofs.Math.ListN.{drop_of_length-le}
use Rattle.ar_value.specs.Value.{Value, Items, Fields, count, items_of, fields_from, value_at}
use Rattle.ar_value.specs.Value as values
use Rattle.ar_value.specs.View.{fields_view, value_view}
use Rattle.ar_value.specs.declared.value.Fields.{Fields as FieldsCode, out-Fields}
use Rattle.ar_value.proofs.FieldLists.{value_field_at}
use Rattle.ar_value.proofs.Views.{fields_view-from}
use Rattle.ar_quote.specs.Shown.{quoted}
use Rattle.ar_show.specs.Values.{field_count, shown_fields, shown_items, shown_within}
use Rattle.ar_show.specs.Words.{between, left_out, plural}

not_zero : (n : ℕ) → 0 < n → (n == 0) ≡ false
not_zero n some = grind (arith, nat_tests)

-- ---- how many

pub count_is : (vs : List Value) → count (items_of vs) ≡ length vs
count_is [] = refl
count_is (v ∷ vs) = ap suc (count_is vs)

pub field_count_is : (index : ℕ) (names : List (List ℕ)) (indices : List ℕ) (vs : List Value) → field_count (fields_from index names indices vs) ≡ length names
field_count_is index [] indices vs = refl
field_count_is index (name ∷ names) indices vs = ap suc (field_count_is (suc index) names indices vs)

-- ---- items

-- one item more is shown
one_item : (levels most : ℕ) (first : Bool) (value : Value) (others : Items) → 0 < most
    → shown_items levels most first (values.item value others) ≡ (between first ++ shown_within levels value) ++ shown_items levels (most - 1) false others
one_item levels most first value others some = rw (not_zero most some) refl

-- no item more is shown
none_more : (levels : ℕ) (first : Bool) (vs : List Value) → shown_items levels 0 first (items_of vs) ≡ left_out (codes "item") (length vs)
none_more levels first [] = refl
none_more levels first (v ∷ vs) = ap (left_out (codes "item")) (ap suc (count_is vs))

pub next_item : (levels : ℕ) (vs : List Value) (index : ℕ) (value : Value) (first : Bool) (written total : List ℕ) → index < 3 → drop index vs ≡ value ∷ drop (suc index) vs
    → written ++ shown_items levels (3 - index) first (items_of (drop index vs)) ≡ total
    → (written ++ (between first ++ shown_within levels value)) ++ shown_items levels (3 - (index + 1)) false (items_of (drop (index + 1) vs)) ≡ total
next_item levels vs index value first written total inside is so_far =
    let fewer : 3 - (index + 1) ≡ (3 - index) - 1 = omega arith in
    rw (fewer, add-one index)
    (append_assoc written (between first ++ shown_within levels value) (shown_items levels ((3 - index) - 1) false (items_of (drop (suc index) vs)))
    ∙ ap (λ text. written ++ text) (sym (one_item levels (3 - index) first value (items_of (drop (suc index) vs)) (omega arith)))
    ∙ ap (λ left. written ++ shown_items levels (3 - index) first (items_of left)) (sym is) ∙ so_far)

last_items : (levels : ℕ) (vs : List Value) (index : ℕ) (first : Bool) → min (length vs) 3 ≤ index → index ≤ 3
    → shown_items levels (3 - index) first (items_of (drop index vs)) ≡ left_out (codes "item") (length vs - 3)
last_items levels vs index first past within = by (cases_lt index (length vs)) where
  by : (index < length vs) ⊎ (length vs ≤ index) → shown_items levels (3 - index) first (items_of (drop index vs)) ≡ left_out (codes "item") (length vs - 3)
  by (inl inside) =
      let is : index ≡ 3 = omega arith in
      rw is (none_more levels first (drop 3 vs) ∙ ap (left_out (codes "item")) (length-drop 3 vs))
  by (inr outside) =
      let none : length vs - 3 ≡ 0 = omega arith in
      rw (drop_of_length-le vs {i = index} outside, none) refl

pub no_item : (levels : ℕ) (vs : List Value) (index : ℕ) (first : Bool) (written total : List ℕ) → min (length vs) 3 ≤ index → index ≤ 3
    → written ++ shown_items levels (3 - index) first (items_of (drop index vs)) ≡ total → written ++ left_out (codes "item") (length vs - 3) ≡ total
no_item levels vs index first written total past within so_far =
    ap (λ text. written ++ text) (sym (last_items levels vs index first past within)) ∙ so_far

-- ---- fields

one_field : (levels most : ℕ) (first : Bool) (name : List ℕ) (value : Value) (others : Fields) → 0 < most
    → shown_fields levels most first (values.field name value others)
    ≡ (between first ++ (quoted name ++ (codes ": " ++ shown_within levels value))) ++ shown_fields levels (most - 1) false others
one_field levels most first name value others some = rw (not_zero most some) refl

no_more_fields : (levels : ℕ) (first : Bool) (index : ℕ) (names : List (List ℕ)) (indices : List ℕ) (vs : List Value)
    → shown_fields levels 0 first (fields_from index names indices vs) ≡ left_out (codes "field") (length names)
no_more_fields levels first index [] indices vs = refl
no_more_fields levels first index (name ∷ names) indices vs = ap (left_out (codes "field")) (ap suc (field_count_is (suc index) names indices vs))

pub next_field : (levels : ℕ) (names : List (List ℕ)) (indices : List ℕ) (vs : List Value) (index : ℕ) (name : List ℕ) (value : Value) (first : Bool) (written total : List ℕ)
    → index < length names → index < 8 → name ≡ slice_index_or names index name → value ≡ value_at index indices vs
    → written ++ shown_fields levels (8 - index) first (fields_from index (drop index names) indices vs) ≡ total
    → (written ++ (between first ++ (quoted name ++ (codes ": " ++ shown_within levels value)))) ++ shown_fields levels (8 - (index + 1)) false (fields_from (index + 1) (drop (index + 1) names) indices vs) ≡ total
next_field levels names indices vs index name value first written total inside few is_name is_value so_far =
    let fewer : 8 - (index + 1) ≡ (8 - index) - 1 = omega arith in
    let rest : Fields = fields_from (index + 1) (drop (index + 1) names) indices vs in
    rw (fewer, is_value)
    (append_assoc written _ (shown_fields levels ((8 - index) - 1) false rest)
    ∙ ap (λ text. written ++ text) (sym (one_field levels (8 - index) first name (value_at index indices vs) rest (omega arith)))
    ∙ ap (λ fields. written ++ shown_fields levels (8 - index) first fields) (sym (value_field_at names indices vs index name inside is_name)) ∙ so_far)

last_fields : (levels : ℕ) (names : List (List ℕ)) (indices : List ℕ) (vs : List Value) (index : ℕ) (first : Bool) → min (length names) 8 ≤ index → index ≤ 8
    → shown_fields levels (8 - index) first (fields_from index (drop index names) indices vs) ≡ left_out (codes "field") (length names - 8)
last_fields levels names indices vs index first past within = by (cases_lt index (length names)) where
  by : (index < length names) ⊎ (length names ≤ index) → shown_fields levels (8 - index) first (fields_from index (drop index names) indices vs) ≡ left_out (codes "field") (length names - 8)
  by (inl inside) =
      let is : index ≡ 8 = omega arith in
      rw is (no_more_fields levels first 8 (drop 8 names) indices vs ∙ ap (left_out (codes "field")) (length-drop 8 names))
  by (inr outside) =
      let none : length names - 8 ≡ 0 = omega arith in
      rw (drop_of_length-le names {i = index} outside, none) refl

pub no_field : (levels : ℕ) (names : List (List ℕ)) (indices : List ℕ) (vs : List Value) (index : ℕ) (first : Bool) (written total : List ℕ) → min (length names) 8 ≤ index → index ≤ 8
    → written ++ shown_fields levels (8 - index) first (fields_from index (drop index names) indices vs) ≡ total → written ++ left_out (codes "field") (length names - 8) ≡ total
no_field levels names indices vs index first written total past within so_far =
    ap (λ text. written ++ text) (sym (last_fields levels names indices vs index first past within)) ∙ so_far

-- ---- lists and records as a whole

pub counted_list : (levels number : ℕ) (vs : List Value) → levels ≡ 0 → number ≡ length vs
    → codes "[" ++ (decimal number ++ (codes " item" ++ (plural number ++ codes "]"))) ≡ shown_within levels (values.list (items_of vs))
counted_list levels number vs none is = rw none (ap (λ n. codes "[" ++ (decimal n ++ (codes " item" ++ (plural n ++ codes "]")))) (is ∙ sym (count_is vs)))

pub counted_record : (levels number : ℕ) (fields : FieldsCode) → levels ≡ 0 → number ≡ length (out-Fields fields).names
    → codes "{" ++ (decimal number ++ (codes " field" ++ (plural number ++ codes "}"))) ≡ shown_within levels (values.object (fields_view fields))
counted_record levels number fields none is =
    rw none (ap (λ n. codes "{" ++ (decimal n ++ (codes " field" ++ (plural n ++ codes "}")))) (is ∙ sym (ap field_count (fields_view-from fields)
    ∙ field_count_is 0 (out-Fields fields).names (out-Fields fields).indices (map value_view (out-Fields fields).values.items))))

pub shown_record : (levels : ℕ) (fields : FieldsCode) → (levels ≡ 0 → ⊥)
    → codes "{" ++ (shown_fields (levels - 1) 8 true (fields_from 0 (out-Fields fields).names (out-Fields fields).indices (map value_view (out-Fields fields).values.items)) ++ codes "}")
    ≡ shown_within levels (values.object (fields_view fields))
shown_record levels fields some =
    rw (not_zero levels (omega arith)) (ap (λ fields. codes "{" ++ (shown_fields (levels - 1) 8 true fields ++ codes "}")) (sym (fields_view-from fields)))

pub three_parts : (before first second after a b c : List ℕ) → first ≡ before ++ a → second ≡ first ++ b → after ≡ second ++ c → after ≡ before ++ (a ++ (b ++ c))
three_parts before first second after a b c one two last = rw (last, two, one) (simp append_assoc)
