-- What reading under a shape needs to know of its records: the indices of the required fields.
use Rattle.std.specs.Prelude.{◌≡◌, ℕ, suc, ◌<◌, ◌==◌, nat_lt, if◌then◌else◌, List, [], ◌∷◌, length, Option, Some, None, Result, Ok, Err, slice_get, slice_index_or}
use Rattle.ar_value.specs.Kind.{is_optional}
use Rattle.ar_value.specs.Shape.{Shape, FieldShapes}
use Rattle.ar_value.specs.Shape as shapes
use Rattle.ar_value.specs.View.{shape_view}
use Rattle.ar_value.specs.declared.shape.Shape.{Shape as ShapeCode}
use Rattle.ar_json.specs.declared.needs.Needs.{Needs as NeedsCode, fold-Needs}
use Rattle.ar_json.specs.declared.needs.Needs.TheOpen.{Needs-F, FieldNeeds-F}
use Rattle.ar_json.specs.declared.value_reading.ShapeFault.{ShapeFault}
use Rattle.ar_json.specs.declared.value_reading.ShapeFault.TheVariants.{MissingField}

mutual
  pub data Needs : Type 0 where
    -- a scalar has no records
    nothing : Needs
    -- what the items of a list need
    items : Needs → Needs
    -- a record: the indices of its required fields, and what each field needs
    fields : List ℕ → Inner → Needs

  pub data Inner : Type 0 where
    no_more : Inner
    more : Needs → Inner → Inner

abbrev pub inner_of : List Needs → Inner
inner_of [] = no_more
inner_of (needs ∷ others) = more needs (inner_of others)

-- the indices of the required fields, where the first field has this index
abbrev pub required_in : ℕ → FieldShapes → List ℕ
required_in index shapes.no_fields = []
required_in index (shapes.field name shape others) =
    if is_optional shape then required_in (suc index) others else index ∷ required_in (suc index) others

abbrev mutual
  -- what a shape needs; an optional one what it needs where the value is there
  pub needs_of : Shape → Needs
  needs_of (shapes.list shape max) = items (needs_of shape)
  needs_of (shapes.object wanted) = fields (required_in 0 wanted) (inner_needs wanted)
  needs_of (shapes.optional shape) = needs_of shape
  needs_of scalar = nothing

  pub inner_needs : FieldShapes → Inner
  inner_needs shapes.no_fields = no_more
  inner_needs (shapes.field name shape others) = more (needs_of shape) (inner_needs others)

-- the parts; what has none keeps itself, or none

abbrev pub item_needs : Needs → Needs
item_needs (items needs) = needs
item_needs needs = needs

abbrev pub required_indices : Needs → List ℕ
required_indices (fields indices inner) = indices
required_indices needs = []

abbrev pub needs_inside : Needs → Inner
needs_inside (fields indices inner) = inner
needs_inside needs = no_more

-- One level of what the code's types represent, with what is inside already seen.

abbrev pub needs_step : Needs-F Needs Needs → Needs
needs_step Needs-F.Nothing = nothing
needs_step (Needs-F.Items needs) = items needs.value
needs_step (Needs-F.Fields needs) = needs.value

abbrev pub field_needs_step : FieldNeeds-F Needs Needs → Needs
field_needs_step f = fields f.required.items (inner_of f.inner.items)

abbrev pub needs_view : NeedsCode → Needs
needs_view = fold-Needs Needs Needs needs_step field_needs_step

-- at an index are a shape and its needs
abbrev pub AreNeedsAt : List ShapeCode → List NeedsCode → ℕ → Type 0
AreNeedsAt shapes inner index =
    (index < length shapes) × (index < length inner)
    × ((shape : ShapeCode) (needs : NeedsCode) → shape ≡ slice_index_or shapes index shape
    → needs ≡ slice_index_or inner index needs → needs_view needs ≡ needs_of (shape_view shape))

-- Of the indices of required fields those before `next` were present. Then comes the field at an index: the index of
-- the next that has to be present, unless one before the index was skipped.
abbrev pub passed_to : ℕ → ℕ → Option ℕ → Result ℕ ShapeFault
passed_to next index None = Ok next
passed_to next index (Some first) =
    if nat_lt first index then Err MissingField else (if first == index then Ok (suc next) else Ok next)

abbrev pub passed : List ℕ → ℕ → ℕ → Result ℕ ShapeFault
passed required next index = passed_to next index (slice_get required next)
