use Rattle.ar_value.proofs.FieldLists.{value_got, no_value_got}
use Rattle.ar_value.proofs.value.value_at.Goals as goal

pub returns-in_err-index_of : goal.returns-in_err-index_of
returns-in_err-index_of c = rw c.from_residual.ensures (no_value_got c.args.index c.args.indices.now c.args.values.now c.in_err-index_of.ensures)

pub returns : goal.returns
returns c = value_got c.args.index c.args.indices.now c.args.values.now _ c.get.result c.in_ok-index_of.ensures c.get.ensures.lookup
