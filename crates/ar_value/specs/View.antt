-- The values, shapes and kinds that the code's types represent.
use Rattle.ar_value.specs.Kind.{Kind}
use Rattle.ar_value.specs.Kind as kinds
use Rattle.ar_value.specs.Shape.{Shape, FieldShapes, field_shapes_of}
use Rattle.ar_value.specs.Shape as shapes
use Rattle.ar_value.specs.Value.{Value, Items, Fields, items_of, fields_from}
use Rattle.ar_value.specs.Value as values
use Rattle.ar_value.specs.declared.kind.Kind.{Kind as KindCode}
use Rattle.ar_value.specs.declared.kind.Kind.TheVariants as kind_code
use Rattle.ar_value.specs.declared.shape.Shape.{Shape as ShapeCode, fold-Shape}
use Rattle.ar_value.specs.declared.shape.Shape.TheOpen.{Shape-F, FieldShapes-F}
use Rattle.ar_value.specs.declared.shape.FieldShapes.{FieldShapes as FieldShapesCode, fold-FieldShapes}
use Rattle.ar_value.specs.declared.value.Value.{Value as ValueCode, fold-Value}
use Rattle.ar_value.specs.declared.value.Value.TheOpen.{Value-F, Fields-F, Values-F}
use Rattle.ar_value.specs.declared.value.Fields.{Fields as FieldsCode, fold-Fields}

-- One level of a value, with what is inside already seen. A record has a field for each name, nil where it has no
-- value.

abbrev pub value_step : Value-F Value Fields Items → Value
value_step Value-F.Nil = values.nil
value_step (Value-F.Bool b) = values.bool b
value_step (Value-F.Whole w) = values.whole w
value_step (Value-F.Decimal d) = values.decimal d
value_step (Value-F.Text t) = values.text t
value_step (Value-F.List items) = values.list items
value_step (Value-F.Object fields) = values.object fields.value

abbrev pub fields_step : Fields-F Value Fields Items → Fields
fields_step f = fields_from 0 f.names f.indices f.values.items

abbrev pub values_step : Values-F Value Fields Items → Items
values_step v = items_of v.items.items

abbrev pub value_view : ValueCode → Value
value_view = fold-Value Value Fields Items value_step fields_step values_step

abbrev pub fields_view : FieldsCode → Fields
fields_view = fold-Fields Value Fields Items value_step fields_step values_step

-- One level of a shape, in the same way.

abbrev pub shape_step : Shape-F Shape FieldShapes → Shape
shape_step Shape-F.Bool = shapes.bool
shape_step Shape-F.Whole = shapes.whole
shape_step Shape-F.Decimal = shapes.decimal
shape_step Shape-F.Text = shapes.text
shape_step (Shape-F.List shape max) = shapes.list shape.value max
shape_step (Shape-F.Object fields) = shapes.object fields
shape_step (Shape-F.Optional shape) = shapes.optional shape.value

abbrev pub field_shapes_step : FieldShapes-F Shape FieldShapes → FieldShapes
field_shapes_step f = field_shapes_of f.names f.shapes.items

abbrev pub shape_view : ShapeCode → Shape
shape_view = fold-Shape Shape FieldShapes shape_step field_shapes_step

abbrev pub field_shapes_view : FieldShapesCode → FieldShapes
field_shapes_view = fold-FieldShapes Shape FieldShapes shape_step field_shapes_step

abbrev pub kind_view : KindCode → Kind
kind_view kind_code.Nil = kinds.nil
kind_view (kind_code.Shape shape) = kinds.shaped (shape_view shape)
