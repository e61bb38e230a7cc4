use Rattle.std.proofs.Common.{◌≡◌, drop, map}
use Rattle.ar_tree.specs.Expression.{expressions}
use Rattle.ar_tree.specs.Views.{expression_of}
use Rattle.ar_check.specs.Found.{any_has_offset}
use Rattle.ar_check.proofs.found.+has_offset.Given as goal

-- those that are left decide
abbrev pub invariant-any_has_offset-loop-tree : goal.invariant-any_has_offset-loop-tree
invariant-any_has_offset-loop-tree l =
    any_has_offset l.offset (expressions (map expression_of l.trees)) ≡ any_has_offset l.offset (expressions (map expression_of (drop l.tree-index l.trees)))
