use Rattle.std.proofs.Common.{rules, arith}
use Rattle.std.proofs.lemmas.Grind.{common_steps}
use Rattle.cases_of_values.proofs.Joined.{next_field_shape, no_field_shape}
use Rattle.cases_of_values.proofs.printing.+put_shape.Goals as goal

pub put_field_shapes-loop-position-preserved : goal.put_field_shapes-loop-position-preserved
put_field_shapes-loop-position-preserved t c = search (rules, next_field_shape, no_field_shape)

pub put_field_shapes-returns : goal.put_field_shapes-returns
put_field_shapes-returns t c = λ whole.
    let so_far = c.loop-position.invariant whole in
    (so_far.0, no_field_shape c.args.names.now c.args.shapes.now c.loop-position.position c.loop-position.first _ _ (omega (arith, c.loop-position-test.false, c.min-position-end.ensures)) so_far.1)

pub put_list-returns : goal.put_list-returns
put_list-returns t c = grind (arith, common_steps)

pub put_optional-returns : goal.put_optional-returns
put_optional-returns t c = grind (arith, common_steps)

pub put_record-returns : goal.put_record-returns
put_record-returns t c = grind (arith, common_steps)
