use Rattle.std.proofs.Common.{◌≡◌, ◌∷◌, [], replicate, Ok, Err}
use Rattle.ar_safety.specs.Arrivals.{operands}
use Rattle.ar_verify.specs.Private.Table.{table_view}
use Rattle.ar_safety.specs.declared.error.Reason.TheVariants.{Unreachable}
use Rattle.ar_verify.proofs.arrivals.table.Given as goal

abbrev pub invariant-loop-index : goal.invariant-loop-index
invariant-loop-index g l = table_view l.arrived.items ≡ Ok (operands [] []) ∷ replicate l._index (Err Unreachable)
