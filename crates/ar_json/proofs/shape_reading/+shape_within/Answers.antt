use Rattle.std.proofs.Common.{rules, Ok, ap, sym, ◌∙◌}
use Rattle.ar_value.specs.Answer.{◌>>=◌}
use Rattle.ar_value.specs.Shape.{Shape}
use Rattle.ar_value.specs.Shape as shapes
use Rattle.ar_value.specs.declared.shape.FieldShapes.{roll-FieldShapes}
use Rattle.ar_json.specs.Names.{member_names}
use Rattle.ar_json.proofs.ShapeNames.{no_more, one_more}
use Rattle.ar_json.proofs.Declarations.{next_shape, none_declared, record_view, object_level, scalar_level, view-string}
use Rattle.ar_json.specs.Declaration.{shape_within}
use Rattle.serde_json.specs.View.{members_view}
use Rattle.serde_json.proofs.Views.{view-Object}
use Rattle.ar_json.proofs.shape_reading.+shape_within.Goals as goal

pub shape_within-returns-in-String-clause-exact : goal.shape_within-returns-in-String-clause-exact
shape_within-returns-in-String-clause-exact t c =
    rw (c.in-String.is, view-string c.in-String.name, scalar_level c.args.levels _ c.if-levels-eq0.false, ← c.as_str.ensures.value) c.scalar.ensures.exact

pub shape_within-returns-in-Object-clause-exact : goal.shape_within-returns-in-Object-clause-exact
shape_within-returns-in-Object-clause-exact t c =
    rw (c.in-Object.is, view-Object c.in-Object.members, object_level c.args.levels (members_view c.in-Object.members.entries) c.if-levels-eq0.false) c.object_shape.ensures.exact

pub field_shapes-loop-json-init : goal.field_shapes-loop-json-init
field_shapes-loop-json-init t c = search (rules, none_declared, no_more)

pub field_shapes-loop-json-preserved : goal.field_shapes-loop-json-preserved
field_shapes-loop-json-preserved t c = record {
  read = rw c.in_ok-push.ensures.items
      (next_shape (shape_within c.args.levels) c.args.members.now.entries c.loop-json.json-iterator c.next.new.self c.loop-json.shapes.items c.in-Some.field-0-0.now c.in-Some.json.now c.in-Some.ensures.steps
      c.in_ok-shape_within.field-0 c.loop-json.invariant.read c.in_ok-shape_within.ensures.exact);
  rise = rw c.in_ok-push.ensures.items (one_more (member_names (members_view c.args.members.now.entries)) c.loop-json.shapes.items c.in_ok-shape_within.field-0 c.loop-json.invariant.rise c.in_ok-shape_within.ensures.names_rise);
}

pub record_shape-returns-clause-exact : goal.record_shape-returns-clause-exact
record_shape-returns-clause-exact t c =
    let fields = roll-FieldShapes (record { names = c.in_ok-names.names; shapes = c.in_ok-shapes.shapes }) in
    rw (c.in-Object.is, view-Object c.in-Object.members)
    (ap (λ declared. declared >>= λ all. Ok (shapes.object all)) c.in_ok-shapes.ensures.exact ∙ ap (λ (shape : Shape). Ok shape) (sym (record_view fields (member_names (members_view c.in-Object.members.entries)) c.in_ok-names.ensures)))

pub record_shape-returns-clause-names_rise : goal.record_shape-returns-clause-names_rise
record_shape-returns-clause-names_rise t c =
    let fields = roll-FieldShapes (record { names = c.in_ok-names.names; shapes = c.in_ok-shapes.shapes }) in
    rw (record_view fields (member_names (members_view c.in-Object.members.entries)) c.in_ok-names.ensures) (c.in_ok-shapes.ensures.names_rise, c.in_ok-shapes.ensures.inner_names_rise)
