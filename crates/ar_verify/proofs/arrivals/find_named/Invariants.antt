use Rattle.ar_value.specs.View.{shape_view}
use Rattle.ar_verify.specs.Private.Table.{ComesTo, pass_view}
use Rattle.ar_verify.proofs.arrivals.find_named.Given as goal

abbrev pub invariant-loop-index : goal.invariant-loop-index
invariant-loop-index g l = ComesTo l.code (shape_view g.M.ShapeName.shape) l.index (pass_view l.pass)
