use Rattle.ar_value.specs.View.{shape_view}
use Rattle.ar_safety.proofs.Safe.{few_operands}
use Rattle.ar_safety.proofs.verified.Verified.depth.Goals as goal

pub returns-clause-shallow : goal.returns-clause-shallow
returns-clause-shallow c = few_operands c.self.inside.code (shape_view c.self.inside.shape) c.self.inside.budget c.self.inside.depth c.self.invariant.0
