use Rattle.std.proofs.Common.{map}
use Rattle.serde_json.specs.View.{members_view}
use Rattle.ar_json.specs.Declaration.{shape_within}
use Rattle.ar_json.specs.Names.{FieldShapeNamesRise, member_names}
use Rattle.ar_value.specs.Shape.{field_shapes_of}
use Rattle.ar_value.specs.View.{shape_view}
use Rattle.ar_json.proofs.Declarations.{Declared}
use Rattle.ar_json.proofs.shape_reading.+shape_within.Given as goal

-- what was read comes before what is left
abbrev pub invariant-field_shapes-loop-json : goal.invariant-field_shapes-loop-json
invariant-field_shapes-loop-json l = record {
  read : Declared (shape_within l.levels) l.members.entries l.json-iterator l.shapes.items;
  rise : FieldShapeNamesRise (field_shapes_of (member_names (members_view l.members.entries)) (map shape_view l.shapes.items));
}
