use Rattle.std.proofs.Common.{nat_cmp}
use Rattle.ar_value.proofs.Orders.{sorted_none}
use Rattle.ar_value.proofs.indices.Indices.with_capacity.Goals as goal

pub invariant_of-result : goal.invariant_of-result
invariant_of-result c = rw c.in_ok-with_capacity.ensures.items (sorted_none nat_cmp)
