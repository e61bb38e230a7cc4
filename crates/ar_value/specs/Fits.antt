-- Which values fit a shape. Fields are matched by index, not by name: the fields of a shape and of a value that are
-- read are in byte order of their names, each once (`Names`), so fields of one name have one index.
use Rattle.std.specs.Prelude.{Bool, true, false, ◌&&◌, nat_le, ◌≡◌, pos, codes, refl}
use Rattle.std.specs.Str.{bytes_eq}
use Rattle.ar_value.specs.Shape.{Shape, FieldShapes}
use Rattle.ar_value.specs.Shape as shapes
use Rattle.ar_value.specs.Value.{Value, Items, Fields, count}
use Rattle.ar_value.specs.Value as values

abbrev pub all_items : (Value → Bool) → Items → Bool
all_items test values.no_items = true
all_items test (values.item value items) = test value && all_items test items

abbrev mutual
  -- A scalar fits its own shape; nil, and what fits S, fit an optional S; a list fits where it isn't too long and each
  -- item fits; a record fits where its names are the shape's and each value fits.
  pub fits : Value → Shape → Bool
  fits (values.bool b) shapes.bool = true
  fits (values.whole w) shapes.whole = true
  fits (values.decimal d) shapes.decimal = true
  fits (values.text t) shapes.text = true
  fits (values.list items) (shapes.list shape max) =
      nat_le (count items) max && all_items (λ value. fits value shape) items
  fits (values.object given) (shapes.object wanted) = fields_fit given wanted
  fits values.nil (shapes.optional shape) = true
  fits value (shapes.optional shape) = fits value shape
  fits value shape = false

  pub fields_fit : Fields → FieldShapes → Bool
  fields_fit values.no_fields shapes.no_fields = true
  fields_fit (values.field name value given) (shapes.field of shape wanted) =
      bytes_eq name of && fits value shape && fields_fit given wanted
  fields_fit given wanted = false

-- ---- worked rows

nil_fits_optional : fits values.nil (shapes.optional shapes.whole) ≡ true
nil_fits_optional = refl

no_whole_for_decimal : fits (values.whole (pos 1)) shapes.decimal ≡ false
no_whole_for_decimal = refl

short_enough : fits (values.list (values.item (values.whole (pos 1)) values.no_items)) (shapes.list shapes.whole 1)
    ≡ true
short_enough = refl

too_long : fits (values.list (values.item (values.whole (pos 1)) values.no_items)) (shapes.list shapes.whole 0) ≡ false
too_long = refl

field_missing : fits (values.object values.no_fields)
    (shapes.object (shapes.field (codes "a") shapes.whole shapes.no_fields)) ≡ false
field_missing = refl
