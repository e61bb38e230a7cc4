-- Kinds of expressions: a shape, or that of the literal `nil`; and the kind that two of them have in common. The fields
-- of two records are matched by index, since both have their names in byte order, each once (`Names`).
use Rattle.std.specs.Prelude.{max, Bool, true, false, ◌||◌, if◌then◌else◌, Option, Some, None, option_map, ◌≡◌, refl}
use Rattle.std.specs.Str.{bytes_eq}
use Rattle.ar_value.specs.Terms.{Text}
use Rattle.ar_value.specs.Fits.{fits}
use Rattle.ar_value.specs.Shape.{Shape, FieldShapes, bool, whole, decimal, text, list, object, optional, no_fields, field}
use Rattle.ar_value.specs.Value.{Value}
use Rattle.ar_value.specs.Value as values
use Rattle.ar_value.specs.declared.operator.Scalar.{Scalar}
use Rattle.ar_value.specs.declared.operator.Scalar.TheVariants as scalars

pub data Kind : Type 0 where
  nil : Kind
  shaped : Shape → Kind

-- the kind of booleans
abbrev pub boolean_kind : Kind
boolean_kind = shaped bool

-- the shape of a scalar
abbrev pub scalar_shape : Scalar → Shape
scalar_shape scalars.Bool = bool
scalar_shape scalars.Whole = whole
scalar_shape scalars.Decimal = decimal
scalar_shape scalars.Text = text

-- nil is the only value of its kind
abbrev pub fits_kind : Value → Kind → Bool
fits_kind values.nil nil = true
fits_kind value nil = false
fits_kind value (shaped shape) = fits value shape

-- a record's first field, where the two names are one
abbrev pub joined_field : Bool → Text → Option Shape → Option FieldShapes → Option FieldShapes
joined_field true name (Some shape) (Some fields) = Some (field name shape fields)
joined_field same name shape fields = None

abbrev mutual
  -- Two shapes that differ in greatest lengths only, at any depth: the shape with the greater ones.
  pub widest : Shape → Shape → Option Shape
  widest bool bool = Some bool
  widest whole whole = Some whole
  widest decimal decimal = Some decimal
  widest text text = Some text
  widest (list left m) (list right n) = option_map (λ shape. list shape (max m n)) (widest left right)
  widest (object left) (object right) = option_map object (widest_fields left right)
  widest (optional left) (optional right) = option_map optional (widest left right)
  widest left right = None

  pub widest_fields : FieldShapes → FieldShapes → Option FieldShapes
  widest_fields no_fields no_fields = Some no_fields
  widest_fields (field name left lefts) (field of right rights) =
      joined_field (bytes_eq name of) name (widest left right) (widest_fields lefts rights)
  widest_fields left right = None

abbrev pub is_optional : Shape → Bool
is_optional (optional shape) = true
is_optional shape = false

-- the shape of what isn't nil
abbrev pub plain : Shape → Shape
plain (optional shape) = shape
plain shape = shape

-- the shape of nil and of what fits a shape
abbrev pub or_nil : Shape → Shape
or_nil shape = optional (plain shape)

abbrev pub merge_shapes : Shape → Shape → Option Shape
merge_shapes left right =
    if is_optional left || is_optional right then option_map optional (widest (plain left) (plain right))
    else widest left right

-- The kind of what has the one kind or the other, where there is one: nil makes a shape optional, and so does an
-- optional shape; else the two differ in greatest lengths only.
abbrev pub merge : Kind → Kind → Option Kind
merge nil nil = Some nil
merge nil (shaped right) = Some (shaped (or_nil right))
merge (shaped left) nil = Some (shaped (or_nil left))
merge (shaped left) (shaped right) = option_map shaped (merge_shapes left right)

-- a whole as a decimal
abbrev pub whole_as_decimal : Shape → Shape
whole_as_decimal whole = decimal
whole_as_decimal (optional whole) = optional decimal
whole_as_decimal shape = shape

abbrev pub is_decimal : Shape → Bool
is_decimal decimal = true
is_decimal (optional decimal) = true
is_decimal shape = false

-- a kind next to another: a whole, also an optional one, is converted to decimal where the other is a decimal
abbrev pub converted_next_to : Kind → Kind → Kind
converted_next_to (shaped other) (shaped shape) =
    if is_decimal other then shaped (whole_as_decimal shape) else shaped shape
converted_next_to other kind = kind

-- the kind that two have in common, once a whole next to a decimal was converted
abbrev pub common : Kind → Kind → Option Kind
common left right = merge (converted_next_to right left) (converted_next_to left right)

-- ---- worked rows

nil_and_a_whole : merge nil (shaped whole) ≡ Some (shaped (optional whole))
nil_and_a_whole = refl

whole_next_to_decimal : common (shaped whole) (shaped decimal) ≡ Some (shaped decimal)
whole_next_to_decimal = refl

longer_list : merge (shaped (list whole 2)) (shaped (list whole 3)) ≡ Some (shaped (list whole 3))
longer_list = refl

nothing_in_common : common (shaped whole) (shaped text) ≡ None
nothing_in_common = refl
