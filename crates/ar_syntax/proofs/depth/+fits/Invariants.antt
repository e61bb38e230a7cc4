use Rattle.std.proofs.Common.{◌≡◌, drop, map, nat_le}
use Rattle.ar_tree.specs.Expression.{expressions}
use Rattle.ar_syntax.specs.Condition.{items_depth}
use Rattle.ar_tree.specs.Views.{expression_of}
use Rattle.ar_syntax.proofs.depth.+fits.Given as goal

-- what is left decides
abbrev pub invariant-all_fit-loop-tree : goal.invariant-all_fit-loop-tree
invariant-all_fit-loop-tree l =
    nat_le (items_depth (expressions (map expression_of l.trees))) l.levels
    ≡ nat_le (items_depth (expressions (map expression_of (drop l.tree-index l.trees)))) l.levels
