use Rattle.ar_value.proofs.FieldLists.{shape_got, no_shape_got}
use Rattle.ar_value.proofs.shape.FieldShapes.get.Goals as goal

pub returns-in_err-index_of : goal.returns-in_err-index_of
returns-in_err-index_of c = rw c.from_residual.ensures (no_shape_got c.args.self.now c.args.name.now c.in_err-index_of.ensures)

pub returns : goal.returns
returns c = shape_got c.args.self.now c.args.name.now _ c.get.result c.in_ok-index_of.ensures (rw c.deref.ensures.value at c.get.ensures.lookup)
