use Rattle.std.proofs.Common.{rules, arith}
use Rattle.std.proofs.lemmas.Grind.{common_steps}
use Rattle.cases_of_values.proofs.Joined.{next_field, next_item, no_field, no_item}
use Rattle.cases_of_values.proofs.printing.+put_value.Goals as goal

pub put_fields-loop-position-preserved : goal.put_fields-loop-position-preserved
put_fields-loop-position-preserved t c = λ whole.
    let part = c.put_field.ensures whole in
    let so_far = c.loop-position.invariant part.0 in (
      so_far.0,
      rw part.1
          (next_field c.args.names.now c.args.indices.now c.args.given.now c.loop-position.position c.as_str.result.now c.index_of.result c.loop-position.first _ _ (omega (arith, c.loop-position-test.true))
          (rw c.as_str.ensures c.index-names-position.is) c.index_of.ensures so_far.1),
    )

pub put_fields-returns : goal.put_fields-returns
put_fields-returns t c = λ whole.
    let so_far = c.loop-position.invariant whole in
    (so_far.0, no_field c.args.names.now c.args.indices.now c.args.given.now c.loop-position.position c.loop-position.first _ _ (omega (arith, c.loop-position-test.false)) so_far.1)

pub put_item-returns : goal.put_item-returns
put_item-returns t c = grind (arith, common_steps)

pub put_items-loop-item-preserved : goal.put_items-loop-item-preserved
put_items-loop-item-preserved t c = search (rules, next_item, no_item)

pub put_items-returns : goal.put_items-returns
put_items-returns t c = grind (arith, common_steps)

pub put_list_value-returns : goal.put_list_value-returns
put_list_value-returns t c = grind (arith, common_steps)

pub put_object-returns : goal.put_object-returns
put_object-returns t c = grind (arith, common_steps)
