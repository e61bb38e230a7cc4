use Rattle.std.proofs.Common.{◌≡◌, ◌+◌, ◌*◌, length, map, max}
use Rattle.std.specs.Vec.Iter.{into_iter_items, into_iter_len}
use Rattle.ar_tree.specs.Expression.{expressions}
use Rattle.ar_tree.specs.Views.{expression_of}
use Rattle.ar_tree.specs.declared.tree.Tree.{size-Tree}
use Rattle.ar_check.specs.Private.Search.{offset_among}
use Rattle.ar_check.proofs.found.+found_in.Given as goal

-- what is found among all trees is found among those that are left
abbrev pub invariant-found_among-loop-tree : goal.invariant-found_among-loop-tree
invariant-found_among-loop-tree l =
    (goal.iterator-found_among-loop-tree).can_next l.tree-iterator × (goal.iterator-found_among-loop-tree).is_finite l.tree-iterator × (into_iter_len l.tree-iterator ≡ length (into_iter_items l.tree-iterator)) ×
    (offset_among l.scope l.offset (expressions (map expression_of l.fn.trees.items)) ≡ offset_among l.scope l.offset (expressions (map expression_of (into_iter_items l.tree-iterator))))

-- eight times the depth that is left; what is called with all of it is lower among the eight
abbrev pub decreases-found_in : goal.decreases-found_in
decreases-found_in l = 8 * goal.size-found_in l

abbrev pub decreases-in_child : goal.decreases-in_child
decreases-in_child l = 8 * goal.size-in_child l + 1

abbrev pub decreases-found_among : goal.decreases-found_among
decreases-found_among l = 8 * goal.size-found_among l + 1

abbrev pub decreases-in_field : goal.decreases-in_field
decreases-in_field l = 8 * goal.size-in_field l + 2

abbrev pub decreases-in_operand : goal.decreases-in_operand
decreases-in_operand l = 8 * goal.size-in_operand l + 2

abbrev pub decreases-in_either : goal.decreases-in_either
decreases-in_either l = 8 * max (size-Tree l.first.value) (size-Tree l.other.value) + 2

abbrev pub decreases-in_index : goal.decreases-in_index
decreases-in_index l = 8 * max (size-Tree l.list.value) (size-Tree l.index.value) + 3

abbrev pub decreases-in_binary : goal.decreases-in_binary
decreases-in_binary l = 8 * max (size-Tree l.left.value) (size-Tree l.right.value) + 3

abbrev pub decreases-in_choice : goal.decreases-in_choice
decreases-in_choice l = 8 * max (size-Tree l.condition.value) (max (size-Tree l.then_branch.value) (size-Tree l.else_branch.value)) + 3

abbrev pub decreases-in_body_over : goal.decreases-in_body_over
decreases-in_body_over l = 8 * goal.size-in_body_over l + 2

abbrev pub decreases-in_body : goal.decreases-in_body
decreases-in_body l = 8 * max (size-Tree l.list.value) (size-Tree l.body.value) + 3

abbrev pub decreases-in_list_or_body : goal.decreases-in_list_or_body
decreases-in_list_or_body l = 8 * max (size-Tree l.list.value) (size-Tree l.body.value) + 4
