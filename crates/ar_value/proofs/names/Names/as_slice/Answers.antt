use Rattle.ar_value.proofs.Orders.{sorted_take}
use Rattle.ar_value.proofs.names.Names.as_slice.Goals as goal

pub returns-clause-rise : goal.returns-clause-rise
returns-clause-rise c = rw (← c.self.view_is) (sorted_take _ _ _ c.self.invariant)
