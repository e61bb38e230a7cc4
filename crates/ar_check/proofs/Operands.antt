-- Operands unwrapped, scalars and numbers among them, and parts of records and lists.
use Rattle.std.proofs.Common.{◌≡◌, ℕ, ℤ, Bool, true, false, nat_le, List, Option, Some, None, IfOk, refl, sym}
use Rattle.std.specs.Prelude.{◌&&◌, if◌then◌else◌, option_and_then}
use Rattle.std.specs.Str.{bytes_eq}
use Rattle.std.proofs.lemmas.Slice.Eq.{bytes_eq-Decides}
use Rattle.ar_value.specs.Answer.{there_or}
use Rattle.ar_value.specs.Fits.{all_items, fields_fit, fits}
use Rattle.ar_value.specs.Kind.{Kind, common, nil, shaped, plain, scalar_shape, boolean_kind}
use Rattle.ar_value.specs.Shape.{Shape, FieldShapes}
use Rattle.ar_value.specs.Shape as shapes
use Rattle.ar_value.specs.Value.{Value, Items, Fields, count, value_named}
use Rattle.ar_value.specs.Value as values
use Rattle.ar_tree.specs.declared.tree.Literal.{Literal}
use Rattle.ar_tree.specs.declared.tree.Literal.TheVariants as literals
use Rattle.ar_check.specs.Check.{given, is_whole_number, innermost, number_kind, plain_kind}
use Rattle.ar_check.specs.Basics.{literal_kind}
use Rattle.ar_value.specs.Shape.{shape_named}
use Rattle.ar_value.specs.Operators.{Failure, Meaning}
use Rattle.ar_tree.specs.Meaning.{mean}
use Rattle.ar_value.specs.Operators as operators
use Rattle.ar_value.proofs.Merges.{common_with_itself}
use Rattle.ar_check.specs.Operand.{Operand, unwrapped, numbers, numbers_in, plain_of, plain_tree, scalar, scalar_of, is_bool, is_text_operand, is_text_scalar, is_boolean}
use Rattle.ar_tree.specs.Typed.{Typed}
use Rattle.ar_tree.specs.Typed as typed
use Rattle.ar_value.specs.declared.operator.Numbers.{Numbers}
use Rattle.ar_value.specs.declared.operator.Scalar.{Scalar}
use Rattle.ar_value.specs.declared.operator.Scalar.TheVariants as scalars
use Rattle.ar_check.proofs.Means.{MeansKind, Sound, IsThere, means_then, both_hold, wanted}

-- ---- kinds in common

pub common_of_same : (left right : Kind) → left ≡ right → Some left ≡ common left right
common_of_same left right same = rw same (sym (common_with_itself right))

-- nil may be on either side
pub common_of_nil : (kind : Kind) → common nil kind ≡ common kind nil
common_of_nil nil = refl
common_of_nil (shaped shape) = refl

-- ---- values of a shape

-- what holds of booleans holds of what fits their shape; below, likewise of other shapes
pub on_bool : (P : Value → Type 0) → ((b : Bool) → P (values.bool b)) → (v : Value) → fits v shapes.bool ≡ true → P v
on_bool P each (values.bool b) h = each b
on_bool P each v h = absurd (cc)

pub on_whole : (P : Value → Type 0) → ((w : ℤ) → P (values.whole w)) → (v : Value) → fits v shapes.whole ≡ true → P v
on_whole P each (values.whole w) h = each w
on_whole P each v h = absurd (cc)

pub on_decimal : (P : Value → Type 0) → ((d : ℤ) → P (values.decimal d)) → (v : Value) → fits v shapes.decimal ≡ true → P v
on_decimal P each (values.decimal d) h = each d
on_decimal P each v h = absurd (cc)

pub on_text : (P : Value → Type 0) → ((letters : List ℕ) → P (values.text letters)) → (v : Value) → fits v shapes.text ≡ true → P v
on_text P each (values.text letters) h = each letters
on_text P each v h = absurd (cc)

pub on_list : (P : Value → Type 0) (shape : Shape) (max : ℕ) → ((items : Items) → nat_le (count items) max ≡ true → all_items (λ v. fits v shape) items ≡ true → P (values.list items))
    → (v : Value) → fits v (shapes.list shape max) ≡ true → P v
on_list P shape max each (values.list items) h =
    let parts = both_hold (nat_le (count items) max) (all_items (λ v. fits v shape) items) h in
    each items parts.0 parts.1
on_list P shape max each v h = absurd (cc)

pub on_object : (P : Value → Type 0) (wanted : FieldShapes) → ((given : Fields) → fields_fit given wanted ≡ true → P (values.object given)) → (v : Value) → fits v (shapes.object wanted) ≡ true → P v
on_object P wanted each (values.object given) h = each given h
on_object P wanted each v h = absurd (cc)

-- ---- scalars and numbers

-- of one scalar, where it is one
abbrev pub MeansScalar : Option Scalar → Meaning → Type 0
MeansScalar (Some scalar) meaning = MeansKind (shaped (scalar_shape scalar)) meaning
MeansScalar None meaning = Unit {0}

-- numbers of one sort, where there are any
abbrev pub MeansNumbers : Option Numbers → Meaning → Type 0
MeansNumbers (Some numbers) meaning = MeansKind (number_kind numbers) meaning
MeansNumbers None meaning = Unit {0}

-- what has a shape is the scalar of that shape
scalar_of_shape : (shape : Shape) (m : Meaning) → MeansKind (shaped shape) m → MeansScalar (scalar_of shape) m
scalar_of_shape shapes.bool m h = h
scalar_of_shape shapes.whole m h = h
scalar_of_shape shapes.decimal m h = h
scalar_of_shape shapes.text m h = h
scalar_of_shape shape m h = tt

-- scalars that are numbers
numbers_of_scalar : (scalar : Option Scalar) (m : Meaning) → MeansScalar scalar m → MeansNumbers (option_and_then numbers_in scalar) m
numbers_of_scalar (Some scalars.Whole) m h = h
numbers_of_scalar (Some scalars.Decimal) m h = h
numbers_of_scalar (Some scalars.Bool) m h = tt
numbers_of_scalar (Some scalars.Text) m h = tt
numbers_of_scalar None m h = tt

-- scalars that are booleans
boolean_of_scalar : (scalar : Option Scalar) (m : Meaning) → MeansScalar scalar m → is_bool scalar ≡ true → MeansKind boolean_kind m
boolean_of_scalar (Some scalars.Bool) m h is = h
boolean_of_scalar scalar m h is = absurd (cc)

-- scalars that are texts
text_of_scalar : (scalar : Option Scalar) (m : Meaning) → MeansScalar scalar m → is_text_scalar scalar ≡ true → MeansKind (shaped shapes.text) m
text_of_scalar (Some scalars.Text) m h is = h
text_of_scalar scalar m h is = absurd (cc)

-- scalars that are wholes
whole_of_scalar : (scalar : Option Scalar) (m : Meaning) → MeansScalar scalar m → is_whole_number scalar ≡ true → MeansKind (shaped shapes.whole) m
whole_of_scalar (Some scalars.Whole) m h is = h
whole_of_scalar scalar m h is = absurd (cc)

-- ---- records

-- a first field or the others, by its name
field_fits : (test : Bool) (shape : Option Shape) (v : Option Value) (first : Shape) (value : Value) → fits value first ≡ true → IsThere shape v
    → IsThere (if test then Some first else shape) (if test then Some value else v)
field_fits true shape v first value fit rest = fit
field_fits false shape v first value fit rest = rest

-- what a name finds in a record fits what it finds in the record's shape
pub named_fits : (name : List ℕ) (given : Fields) (fields : FieldShapes) → fields_fit given fields ≡ true → IsThere (shape_named name fields) (value_named name given)
named_fits name values.no_fields shapes.no_fields h = tt
named_fits name values.no_fields (shapes.field of shape others) h = absurd (cc)
named_fits name (values.field n v given) shapes.no_fields h = absurd (cc)
named_fits name (values.field n v given) (shapes.field of shape others) h =
    let parts = both_hold (bytes_eq n of && fits v shape) (fields_fit given others) h in
    let front = both_hold (bytes_eq n of) (fits v shape) parts.0 in
    let same : n ≡ of = (bytes_eq-Decides n of).0 front.0 in
    rw same (field_fits (bytes_eq of name) (shape_named name others) (value_named name given) shape v front.1 (named_fits name given others parts.1))

-- what is there, else a failure
pub there_fits : (shape : Shape) (failure : Failure) (v : Option Value) → IsThere (Some shape) v → MeansKind (shaped shape) (there_or failure v)
there_fits shape failure (Some v) h = h
there_fits shape failure None h = absurd h

module _ (result : Value) (here : Option Value) where
  -- ---- plain operands

  -- what isn't nil fits the shape inside an optional one
  pub not_nil_fits : (shape : Shape) (v : Value) → fits v (shapes.optional shape) ≡ true → MeansKind (shaped shape) (operators.not_nil v)
  not_nil_fits shape values.nil h = tt
  not_nil_fits shape v h = h

  -- an unwrapped tree means the plain kind
  tree_is_plain : (kind : Kind) (tree : Typed) → MeansKind kind (mean result here tree) → MeansKind (plain_kind kind) (mean result here (plain_tree kind tree))
  tree_is_plain nil tree h = h
  tree_is_plain (shaped (shapes.optional shape)) tree h = means_then _ _ (mean result here tree) operators.not_nil h (not_nil_fits shape)
  tree_is_plain (shaped shape) tree h = h

  -- an unwrapped operand means its plain kind
  pub is_plain : (operand : Operand) → Sound result here operand → MeansKind (plain_kind operand.kind) (mean result here (unwrapped operand))
  is_plain operand h = tree_is_plain operand.kind operand.tree h

  -- what has a plain kind is the scalar of that kind
  kind_is_scalar : (kind : Kind) (m : Meaning) → MeansKind (plain_kind kind) m → MeansScalar (option_and_then scalar_of (plain_of kind)) m
  kind_is_scalar nil m h = tt
  kind_is_scalar (shaped shape) m h = scalar_of_shape (plain shape) m h

  -- an unwrapped operand is the scalar that its kind says
  pub is_scalar : (operand : Operand) → Sound result here operand → MeansScalar (scalar operand) (mean result here (unwrapped operand))
  is_scalar operand h = kind_is_scalar operand.kind (mean result here (unwrapped operand)) (is_plain operand h)

  -- an unwrapped operand has the numbers that its kind says
  pub are_numbers : (operand : Operand) → Sound result here operand → MeansNumbers (numbers operand) (mean result here (unwrapped operand))
  are_numbers operand h = numbers_of_scalar (scalar operand) (mean result here (unwrapped operand)) (is_scalar operand h)

  -- an operand of the kind of booleans, unwrapped, is one
  pub is_true : (operand : Operand) → Sound result here operand → is_boolean operand ≡ true → MeansKind boolean_kind (mean result here (unwrapped operand))
  is_true operand h is = boolean_of_scalar (scalar operand) (mean result here (unwrapped operand)) (is_scalar operand h) is

  -- an operand of the kind of texts, unwrapped, is one
  pub is_letters : (operand : Operand) → Sound result here operand → is_text_operand operand ≡ true → MeansKind (shaped shapes.text) (mean result here (unwrapped operand))
  is_letters operand h is = text_of_scalar (scalar operand) (mean result here (unwrapped operand)) (is_scalar operand h) is

  -- an operand of the kind of wholes, unwrapped, is one
  pub is_index : (operand : Operand) → Sound result here operand → is_whole_number (scalar operand) ≡ true → MeansKind (shaped shapes.whole) (mean result here (unwrapped operand))
  is_index operand h is = whole_of_scalar (scalar operand) (mean result here (unwrapped operand)) (is_scalar operand h) is

  -- ---- leaves

  -- a literal means its kind
  pub literal_sound : (literal : Literal) → MeansKind (literal_kind literal) (mean result here (typed.literal literal))
  literal_sound literals.Nil = refl
  literal_sound (literals.Bool b) = refl
  literal_sound (literals.Whole w) = refl
  literal_sound (literals.Decimal d) = refl
  literal_sound (literals.Text t) = refl

  -- the innermost item has its shape
  pub item_sound : (at : ℕ) (item : Option Shape) → IsThere item here → IfOk (innermost at item) (Sound result here)
  item_sound at (Some shape) h = there_fits shape operators.ill_kinded here h
  item_sound at None h = tt
