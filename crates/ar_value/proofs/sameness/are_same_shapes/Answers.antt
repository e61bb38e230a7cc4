use Rattle.ar_value.proofs.Same.{same_is}
use Rattle.ar_value.proofs.sameness.are_same_shapes.Goals as goal

pub returns : goal.returns
returns c = same_is _ _ c.is_same.result c.is_same.ensures
