-- Shapes apart from the greatest lengths of their lists: shapes that were joined have one form, and each list the
-- greatest of its lengths.
use Rattle.std.specs.Prelude.{ℕ, max, Bool, true, ◌&&◌, List, [], ◌∷◌}
use Rattle.ar_value.specs.Shape.{Shape, FieldShapes, list, object, optional, no_fields, field}
use Rattle.ar_verify.specs.Private.Lists.{longest}
use Rattle.ar_value.specs.Private.Same.{same_shape}

abbrev mutual
  -- no list of it has an item
  pub form : Shape → Shape
  form (list item max) = list (form item) 0
  form (object fields) = object (field_forms fields)
  form (optional shape) = optional (form shape)
  form shape = shape

  pub field_forms : FieldShapes → FieldShapes
  field_forms no_fields = no_fields
  field_forms (field name shape others) = field name (form shape) (field_forms others)

abbrev mutual
  -- of two shapes of one form, that with the greater lengths
  pub wider : Shape → Shape → Shape
  wider (list left m) (list right n) = list (wider left right) (max m n)
  wider (object left) (object right) = object (wider_fields left right)
  wider (optional left) (optional right) = optional (wider left right)
  wider left right = left

  pub wider_fields : FieldShapes → FieldShapes → FieldShapes
  wider_fields (field name left lefts) (field of right rights) =
      field name (wider left right) (wider_fields lefts rights)
  wider_fields left right = left

-- of shapes of one form, that with the greatest lengths
abbrev pub widest_of : Shape → List Shape → Shape
widest_of shape [] = shape
widest_of shape (other ∷ others) = widest_of (wider shape other) others

-- whether others are of a shape's form
abbrev pub all_alike : Shape → List Shape → Bool
all_alike shape [] = true
all_alike shape (other ∷ others) = same_shape (form shape) (form other) && all_alike shape others

-- the greatest length of shapes of lists
abbrev pub longest_of : ℕ → List Shape → ℕ
longest_of most [] = most
longest_of most (other ∷ others) = longest_of (max most (longest other)) others
