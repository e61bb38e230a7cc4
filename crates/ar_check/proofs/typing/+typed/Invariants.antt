use Rattle.std.proofs.Common.{◌≡◌, ◌+◌, ◌*◌, length, map, max, option_map}
use Rattle.std.specs.Vec.Iter.{into_iter_items, into_iter_len}
use Rattle.ar_value.specs.View.{shape_view}
use Rattle.ar_tree.specs.Expression.{expressions}
use Rattle.ar_tree.specs.Views.{expression_of}
use Rattle.ar_tree.specs.declared.tree.Tree.{size-Tree}
use Rattle.ar_check.specs.Check.{items_typed}
use Rattle.ar_check.specs.Private.Inside.{item_view}
use Rattle.ar_check.proofs.Items.{later}
use Rattle.ar_check.proofs.typing.+typed.Given as goal

-- the items so far come before those that are left
abbrev pub invariant-typed_items-loop-tree : goal.invariant-typed_items-loop-tree
invariant-typed_items-loop-tree l =
    (goal.iterator-typed_items-loop-tree).can_next l.tree-iterator × (goal.iterator-typed_items-loop-tree).is_finite l.tree-iterator × (into_iter_len l.tree-iterator ≡ length (into_iter_items l.tree-iterator)) ×
    (items_typed (shape_view l.scope.measured.now) (option_map (λ shape. shape_view shape.now) l.scope.item) l.scope.around (expressions (map expression_of l.fn.trees.items))
    ≡ later (shape_view l.scope.measured.now) (option_map (λ shape. shape_view shape.now) l.scope.item) l.scope.around (map item_view l.items.items) (expressions (map expression_of (into_iter_items l.tree-iterator))))

-- eight times the depth that is left; what is called with all of it is lower among the eight
abbrev pub decreases-typed : goal.decreases-typed
decreases-typed l = 8 * goal.size-typed l

abbrev pub decreases-child : goal.decreases-child
decreases-child l = 8 * goal.size-child l + 1

abbrev pub decreases-typed_item : goal.decreases-typed_item
decreases-typed_item l = 8 * goal.size-typed_item l + 1

abbrev pub decreases-typed_items : goal.decreases-typed_items
decreases-typed_items l = 8 * goal.size-typed_items l + 2

abbrev pub decreases-typed_body : goal.decreases-typed_body
decreases-typed_body l = 8 * goal.size-typed_body l + 2

abbrev pub decreases-typed_field : goal.decreases-typed_field
decreases-typed_field l = 8 * goal.size-typed_field l + 3

abbrev pub decreases-typed_unary : goal.decreases-typed_unary
decreases-typed_unary l = 8 * goal.size-typed_unary l + 3

abbrev pub decreases-typed_list : goal.decreases-typed_list
decreases-typed_list l = 8 * goal.size-typed_list l + 3

abbrev pub decreases-typed_len : goal.decreases-typed_len
decreases-typed_len l = 8 * goal.size-typed_len l + 3

abbrev pub decreases-typed_is_nil : goal.decreases-typed_is_nil
decreases-typed_is_nil l = 8 * goal.size-typed_is_nil l + 3

abbrev pub decreases-typed_index : goal.decreases-typed_index
decreases-typed_index l = 8 * max (size-Tree l.list.value) (size-Tree l.index.value) + 3

abbrev pub decreases-typed_binary : goal.decreases-typed_binary
decreases-typed_binary l = 8 * max (size-Tree l.left.value) (size-Tree l.right.value) + 3

abbrev pub decreases-typed_default : goal.decreases-typed_default
decreases-typed_default l = 8 * max (size-Tree l.operand.value) (size-Tree l.otherwise.value) + 3

abbrev pub decreases-typed_predicate : goal.decreases-typed_predicate
decreases-typed_predicate l = 8 * max (size-Tree l.list.value) (size-Tree l.body.value) + 3

abbrev pub decreases-typed_choice : goal.decreases-typed_choice
decreases-typed_choice l = 8 * max (size-Tree l.condition.value) (max (size-Tree l.then_branch.value) (size-Tree l.else_branch.value)) + 3
