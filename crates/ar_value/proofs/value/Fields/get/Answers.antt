use Rattle.ar_value.proofs.FieldLists.{field_got, no_field_got}
use Rattle.ar_value.proofs.value.Fields.get.Goals as goal

pub returns-in_err-index : goal.returns-in_err-index
returns-in_err-index c = rw c.from_residual.ensures (no_field_got c.args.self.now c.args.name.now c.in_err-index.ensures)

pub returns : goal.returns
returns c = field_got c.args.self.now c.args.name.now c.in_ok-index.index _ c.in_ok-index.ensures (rw (← c.deref.ensures.value) c.value_at.ensures)
