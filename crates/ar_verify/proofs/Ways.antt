-- Parts of shapes, by the way to them.
use Rattle.std.proofs.Common.{◌≡◌, ℕ, zero, suc, ◌+◌, ◌<◌, ◌≤◌, min, nat_lt, Bool, true, false, List, [], ◌∷◌, ◌++◌, length, drop, Option, Some, None, option_map, refl, sym, ◌∙◌, ap, arith, drop-cons, add-one}
use Rattle.std.specs.Prelude.{slice_index_or, if◌then◌else◌, unwrap_or}
use Rattle.std.specs.Str.{bytes_eq}
use Rattle.std.proofs.Math.ListN.{drop_of_length-le}
use Rattle.ar_value.specs.Kind.{shaped}
use Rattle.ar_value.specs.Shape.{Shape, FieldShapes, object, no_fields, field, shape_named}
use Rattle.ar_value.specs.Names.{index_named}
use Rattle.ar_value.specs.View.{shape_view}
use Rattle.ar_value.specs.declared.shape.Shape.{Shape as ShapeCode}
use Rattle.ar_value.proofs.FieldLists.{Of}
use Rattle.std.proofs.lemmas.Bool.Decides.{nat_tests}
use Rattle.ar_safety.specs.Effects.{field_kind}
use Rattle.ar_verify.specs.Private.Roots.{child, field_or, nth_field, number_named, root_field, part_at}

-- ---- step by step

pub one_step : (path : List ℕ) (i n : ℕ) (shape : Shape) → i < length path → n ≡ slice_index_or path i n → part_at (drop i path) shape ≡ part_at (drop (i + 1) path) (child n shape)
one_step path i n shape within is =
    rw add-one (ap (λ way. part_at way shape) (drop-cons path i n within ∙ ap (λ m. m ∷ drop (suc i) path) (sym is)))

pub all_gone : (path : List ℕ) (i : ℕ) (shape : Shape) → length path ≤ i → part_at (drop i path) shape ≡ shape
all_gone path i shape past = ap (λ way. part_at way shape) (drop_of_length-le path past)

pub one_further : (path : List ℕ) (n : ℕ) (shape : Shape) → part_at (path ++ n ∷ []) shape ≡ child n (part_at path shape)
one_further [] n shape = refl
one_further (m ∷ path) n shape = one_further path n (child m shape)

-- ---- fields

nth_is : (names : List (List ℕ)) (shapes : List ShapeCode) (i : ℕ) (shape : ShapeCode) → i < length names → i < length shapes → shape ≡ slice_index_or shapes i shape
    → nth_field i (Of names shapes) ≡ Some (shape_view shape)
nth_is [] shapes i shape in_names in_shapes is = absurd (omega (arith, in_names))
nth_is (n ∷ names) [] i shape in_names in_shapes is = absurd (omega (arith, in_shapes))
nth_is (n ∷ names) (s ∷ shapes) zero shape in_names in_shapes is = ap (λ one. Some (shape_view one)) (sym is)
nth_is (n ∷ names) (s ∷ shapes) (suc i) shape in_names in_shapes is = nth_is names shapes i shape (omega (arith, in_names)) (omega (arith, in_shapes)) is

nth_past : (names : List (List ℕ)) (shapes : List ShapeCode) (i : ℕ) → min (length names) (length shapes) ≤ i → nth_field i (Of names shapes) ≡ None
nth_past [] shapes i past = refl
nth_past (n ∷ names) [] i past = refl
nth_past (n ∷ names) (s ∷ shapes) zero past = absurd (omega (arith, past))
nth_past (n ∷ names) (s ∷ shapes) (suc i) past = nth_past names shapes i (omega (arith, past))

pub this_field : (names : List (List ℕ)) (shapes : List ShapeCode) (i : ℕ) (shape : ShapeCode) (other : Shape) → i < min (length names) (length shapes) → shape ≡ slice_index_or shapes i shape
    → field_or i (Of names shapes) other ≡ shape_view shape
this_field names shapes i shape other within is = ap (λ one. unwrap_or one other) (nth_is names shapes i shape (omega (arith, within)) (omega (arith, within)) is)

pub past_fields : (names : List (List ℕ)) (shapes : List ShapeCode) (i : ℕ) (other : Shape) → min (length names) (length shapes) ≤ i → field_or i (Of names shapes) other ≡ other
past_fields names shapes i other past = ap (λ shape. unwrap_or shape other) (nth_past names shapes i past)

-- a number among names, as far as there are shapes
abbrev below_or_none : ℕ → Option ℕ → Option ℕ
below_or_none count None = None
below_or_none count (Some n) = if nat_lt n count then Some n else None

none_below : (is : Bool) (found : Option ℕ) → None ≡ below_or_none 0 (if is then Some 0 else option_map suc found)
none_below true found = refl
none_below false None = refl
none_below false (Some n) = let past : nat_lt (suc n) 0 ≡ false = grind (arith, nat_tests) in rw past refl

one_more : (is : Bool) (count : ℕ) (found : Option ℕ) → (if is then Some 0 else option_map suc (below_or_none count found)) ≡ below_or_none (suc count) (if is then Some 0 else option_map suc found)
one_more true count found = let inside : nat_lt 0 (suc count) ≡ true = grind (arith, nat_tests) in rw inside refl
one_more false count None = refl
one_more false count (Some n) = by (nat_lt n count) refl
  where
    by : (test : Bool) → nat_lt n count ≡ test → option_map suc (if nat_lt n count then Some n else None) ≡ (if nat_lt (suc n) (suc count) then Some (suc n) else None)
    by true is = let later : nat_lt (suc n) (suc count) ≡ true = grind (arith, nat_tests) in rw (is, later) refl
    by false is = let later : nat_lt (suc n) (suc count) ≡ false = grind (arith, nat_tests) in rw (is, later) refl

number_is : (name : List ℕ) (names : List (List ℕ)) (shapes : List ShapeCode) → number_named name (Of names shapes) ≡ below_or_none (length shapes) (index_named name names)
number_is name [] shapes = refl
number_is name (of ∷ names) [] = none_below (bytes_eq of name) (index_named name names)
number_is name (of ∷ names) (s ∷ shapes) =
    ap (λ later. if bytes_eq of name then Some 0 else option_map suc later) (number_is name names shapes) ∙ one_more (bytes_eq of name) (length shapes) (index_named name names)

pub named_there : (name : List ℕ) (names : List (List ℕ)) (shapes : List ShapeCode) (n : ℕ) → Some n ≡ index_named name names → n < length shapes → Some n ≡ number_named name (Of names shapes)
named_there name names shapes n is within = sym (number_is name names shapes ∙ ap (below_or_none (length shapes)) (sym is) ∙ grind (arith, nat_tests))

pub named_past : (name : List ℕ) (names : List (List ℕ)) (shapes : List ShapeCode) (n : ℕ) → Some n ≡ index_named name names → length shapes ≤ n → None ≡ number_named name (Of names shapes)
named_past name names shapes n is past = sym (number_is name names shapes ∙ ap (below_or_none (length shapes)) (sym is) ∙ grind (arith, nat_tests))

pub none_named : (name : List ℕ) (names : List (List ℕ)) (shapes : List ShapeCode) → None ≡ index_named name names → None ≡ number_named name (Of names shapes)
none_named name names shapes is = sym (number_is name names shapes ∙ ap (below_or_none (length shapes)) (sym is))

-- a field by the number of its name
module _ (other : Shape) where
  past_one : (name : List ℕ) (first : Shape) (others : FieldShapes) (number : Option ℕ)
      → option_map (λ n. shaped (field_or n (field name first others) other)) (option_map suc number) ≡ option_map (λ n. shaped (field_or n others other)) number
  past_one name first others (Some n) = refl
  past_one name first others None = refl

  by_test : (is : Bool) (of name : List ℕ) (first : Shape) (others : FieldShapes) → option_map (λ n. shaped (field_or n others other)) (number_named name others) ≡ option_map shaped (shape_named name others)
      → option_map (λ n. shaped (field_or n (field of first others) other)) (if is then Some 0 else option_map suc (number_named name others)) ≡ option_map shaped (if is then Some first else shape_named name others)
  by_test true of name first others rest = refl
  by_test false of name first others rest = past_one of first others (number_named name others) ∙ rest

  by_name : (name : List ℕ) (inside : FieldShapes) → option_map (λ n. shaped (field_or n inside other)) (number_named name inside) ≡ option_map shaped (shape_named name inside)
  by_name name no_fields = refl
  by_name name (field of shape others) = by_test (bytes_eq of name) of name shape others (by_name name others)

field_is : (name : List ℕ) (shape : Shape) → option_map (λ n. shaped (child n shape)) (root_field name shape) ≡ field_kind name (shaped shape)
field_is name (object inside) = by_name (object inside) name inside
field_is name shape = refl

pub field_there : (name : List ℕ) (shape : Shape) (n : ℕ) → Some n ≡ root_field name shape → Some (shaped (child n shape)) ≡ field_kind name (shaped shape)
field_there name shape n is = ap (option_map (λ n. shaped (child n shape))) is ∙ field_is name shape

pub no_field : (name : List ℕ) (shape : Shape) → None ≡ root_field name shape → None ≡ field_kind name (shaped shape)
no_field name shape is = ap (option_map (λ n. shaped (child n shape))) is ∙ field_is name shape
