use Rattle.ar_value.proofs.Orders.{sorted_push}
use Rattle.ar_value.proofs.indices.Indices.push.Goals as goal

pub invariant_of-self-2 : goal.invariant_of-self-2
invariant_of-self-2 c = rw c.in_ok-push.ensures.items (sorted_push _ _ c.self.invariant (rw (← c.self.view_is) at c.requires))
