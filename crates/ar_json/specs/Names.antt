-- The order of a record's fields: what is read has them by name, and the names strictly rise, byte by byte.
use Rattle.std.specs.Prelude.{List, [], ◌∷◌}
use Rattle.ar_value.specs.Terms.{Text}
use Rattle.serde_json.specs.Data.{Members, no_members, member}
use Rattle.ar_value.specs.Names.{Rise}
use Rattle.ar_value.specs.Shape.{Shape, FieldShapes}
use Rattle.ar_value.specs.Shape as shapes
use Rattle.ar_value.specs.Value.{Value, Items, Fields}
use Rattle.ar_value.specs.Value as values

-- the names of an object's members, in their order
abbrev pub member_names : Members → List Text
member_names no_members = []
member_names (member name json others) = name ∷ member_names others

abbrev pub shape_names : FieldShapes → List Text
shape_names shapes.no_fields = []
shape_names (shapes.field name shape others) = name ∷ shape_names others

abbrev pub field_names : Fields → List Text
field_names values.no_fields = []
field_names (values.field name value others) = name ∷ field_names others

abbrev mutual
  -- the names of each record's fields rise, at any depth of a shape
  pub ShapeNamesRise : Shape → Type 0
  ShapeNamesRise (shapes.list shape max) = ShapeNamesRise shape
  ShapeNamesRise (shapes.object fields) = Rise (shape_names fields) × FieldShapeNamesRise fields
  ShapeNamesRise (shapes.optional shape) = ShapeNamesRise shape
  ShapeNamesRise shapes.bool = Unit {0}
  ShapeNamesRise shapes.whole = Unit {0}
  ShapeNamesRise shapes.decimal = Unit {0}
  ShapeNamesRise shapes.text = Unit {0}

  pub FieldShapeNamesRise : FieldShapes → Type 0
  FieldShapeNamesRise shapes.no_fields = Unit {0}
  FieldShapeNamesRise (shapes.field name shape others) = ShapeNamesRise shape × FieldShapeNamesRise others

abbrev mutual
  -- the same of a value
  pub ValueNamesRise : Value → Type 0
  ValueNamesRise (values.list items) = ItemNamesRise items
  ValueNamesRise (values.object fields) = Rise (field_names fields) × FieldNamesRise fields
  ValueNamesRise values.nil = Unit {0}
  ValueNamesRise (values.bool holds) = Unit {0}
  ValueNamesRise (values.whole value) = Unit {0}
  ValueNamesRise (values.decimal millionths) = Unit {0}
  ValueNamesRise (values.text letters) = Unit {0}

  pub ItemNamesRise : Items → Type 0
  ItemNamesRise values.no_items = Unit {0}
  ItemNamesRise (values.item value items) = ValueNamesRise value × ItemNamesRise items

  pub FieldNamesRise : Fields → Type 0
  FieldNamesRise values.no_fields = Unit {0}
  FieldNamesRise (values.field name value others) = ValueNamesRise value × FieldNamesRise others
