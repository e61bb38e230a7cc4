use Rattle.ar_syntax.specs.Condition.{strict}
use Rattle.ar_syntax.proofs.OneTree.{one_tree_by}
use Rattle.ar_syntax.proofs.laws.one_tree.Goals as goal

pub returns : goal.returns
returns c = one_tree_by strict
