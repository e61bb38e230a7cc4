use Rattle.std.proofs.Common.{arith, max, option_map, rules}
use Rattle.std.proofs.lemmas.Result.{err_from_is_err_and}
use Rattle.ar_check.proofs.Items.{all_left, ended, fails_unless, len_next, next_left}
use Rattle.ar_value.specs.View.{shape_view}
use Rattle.ar_tree.specs.declared.tree.Tree.{size-Tree}
use Rattle.ar_check.specs.Check.{over_items}
use Rattle.ar_check.specs.Memory.{is_memory}
use Rattle.ar_check.proofs.Freely.{gives_freely}
use Rattle.ar_check.proofs.Sizes.{binary_deeper, choice_deeper, default_deeper, field_deeper, first_of_two, index_deeper, is_nil_deeper, len_deeper, lower, other_of_two, part_below, predicate_deeper, second_of_three, third_of_three, unary_deeper}
use Rattle.ar_check.proofs.typing.+typed.Goals as goal

pub typed_items-loop-tree-preserved : goal.typed_items-loop-tree-preserved
typed_items-loop-tree-preserved t c =
    let inv = c.loop-tree.invariant in
    let steps = c.in-Some.ensures.steps in (
      tt,
      tt,
      len_next _ _ _ _ _ inv.2 steps.0 steps.1,
      rw c.in_ok-push.ensures.items
          (next_left (shape_view c.args.scope.now.measured.now) (option_map (λ shape. shape_view shape.now) c.args.scope.now.item) c.args.scope.now.around _ _ _ _ _ _ inv.3 steps.0 c.in_ok-typed_item.ensures),
    )

pub typed_items-returns-in_err-typed_item : goal.typed_items-returns-in_err-typed_item
typed_items-returns-in_err-typed_item t c =
    let p = err_from_is_err_and c.from_residual-in_err-typed_item.result c.from_residual-in_err-typed_item.ensures.1 in
    rw (p.1, p.2)
    (fails_unless (shape_view c.args.scope.now.measured.now) (option_map (λ shape. shape_view shape.now) c.args.scope.now.item) c.args.scope.now.around (is_memory c.in_err-typed_item.field-0.0) _ _ _ _ _ c.in_err-typed_item.field-0.0
    c.loop-tree.invariant.3 c.in-Some.ensures.steps.0 c.in_err-typed_item.ensures)

pub typed_items-returns : goal.typed_items-returns
typed_items-returns t c =
    let inv = c.loop-tree.invariant in
    ended (shape_view c.args.scope.now.measured.now) (option_map (λ shape. shape_view shape.now) c.args.scope.now.item) c.args.scope.now.around _ _ _ _ inv.3 inv.2 c.in-None.ensures.steps.0

pub typed_predicate-returns : goal.typed_predicate-returns
typed_predicate-returns t c =
    let body = rw c.deref.ensures at c.in_ok-body.ensures in
    rw (c.in_ok-list.ensures, body) c.predicate_of.ensures

pub typed_body-returns-in_err-shape : goal.typed_body-returns-in_err-shape
unfolding over_items
typed_body-returns-in_err-shape t c = grind (arith, gives_freely)

pub typed_body-returns-then-scope-ge-MOST_LOOPS : goal.typed_body-returns-then-scope-ge-MOST_LOOPS
unfolding over_items
typed_body-returns-then-scope-ge-MOST_LOOPS t c = search rules

pub typed_body-returns-in_err-child : goal.typed_body-returns-in_err-child
unfolding over_items
typed_body-returns-in_err-child t c = search rules

pub typed_body-returns : goal.typed_body-returns
unfolding over_items
typed_body-returns t c = search rules

pub typed_field-returns : goal.typed_field-returns
typed_field-returns t c = rw c.in_ok-owner.ensures c.field_of.ensures

pub typed_unary-returns : goal.typed_unary-returns
typed_unary-returns t c = rw c.in_ok-operand.ensures c.unary.ensures

pub typed_list-returns : goal.typed_list-returns
typed_list-returns t c = rw c.in_ok-items.ensures c.list.ensures

pub typed_len-returns : goal.typed_len-returns
typed_len-returns t c = rw c.in_ok-list.ensures c.len_of.ensures

pub typed_is_nil-returns : goal.typed_is_nil-returns
typed_is_nil-returns t c = rw c.in_ok-operand.ensures c.is_nil_of.ensures

pub typed_index-returns : goal.typed_index-returns
typed_index-returns t c = rw (c.in_ok-list.ensures, c.in_ok-index.ensures) c.index_of.ensures

pub typed_default-returns : goal.typed_default-returns
typed_default-returns t c = rw (c.in_ok-operand.ensures, c.in_ok-otherwise.ensures) c.default_of.ensures

pub typed_binary-returns : goal.typed_binary-returns
typed_binary-returns t c =
    let nil_left = rw c.deref.ensures at c.is_nil_literal-nil_left.ensures in
    let nil_right = rw c.deref-2.ensures at c.is_nil_literal-nil_right.ensures in
    rw (c.in_ok-left.ensures, c.in_ok-right.ensures, ← nil_left, ← nil_right) c.binary.ensures

pub typed_choice-returns : goal.typed_choice-returns
typed_choice-returns t c = rw (c.in_ok-condition.ensures, c.in_ok-then_branch.ensures, c.in_ok-else_branch.ensures) c.choice_of.ensures

pub typed_items-loop-tree-init : goal.typed_items-loop-tree-init
typed_items-loop-tree-init t c = search (rules, all_left)

pub typed-typed_field-requires : goal.typed-typed_field-requires
typed-typed_field-requires t c = (part_below 3 _ _ _ t (omega arith) c.in-Field.is (field_deeper _ _ _) c.decreases, tt)

pub typed-typed_index-requires : goal.typed-typed_index-requires
typed-typed_index-requires t c = (part_below 3 _ _ _ t (omega arith) c.in-Index.is (index_deeper _ _ _) c.decreases, tt)

pub typed-typed_unary-requires : goal.typed-typed_unary-requires
typed-typed_unary-requires t c = (part_below 3 _ _ _ t (omega arith) c.in-Unary.is (unary_deeper _ _ _) c.decreases, tt)

pub typed-typed_binary-requires : goal.typed-typed_binary-requires
typed-typed_binary-requires t c = (part_below 3 _ _ _ t (omega arith) c.in-Binary.is (binary_deeper _ _ _ _) c.decreases, tt)

pub typed-typed_choice-requires : goal.typed-typed_choice-requires
typed-typed_choice-requires t c = (part_below 3 _ _ _ t (omega arith) c.in-Choice.is (choice_deeper _ _ _ _) c.decreases, tt)

pub typed-typed_len-requires : goal.typed-typed_len-requires
typed-typed_len-requires t c = (part_below 3 _ _ _ t (omega arith) c.in-Len.is (len_deeper _ _) c.decreases, tt)

pub typed-typed_is_nil-requires : goal.typed-typed_is_nil-requires
typed-typed_is_nil-requires t c = (part_below 3 _ _ _ t (omega arith) c.in-IsNil.is (is_nil_deeper _ _) c.decreases, tt)

pub typed-typed_default-requires : goal.typed-typed_default-requires
typed-typed_default-requires t c = (part_below 3 _ _ _ t (omega arith) c.in-Default.is (default_deeper _ _ _) c.decreases, tt)

pub typed-typed_predicate-requires : goal.typed-typed_predicate-requires
typed-typed_predicate-requires t c = (part_below 3 _ _ _ t (omega arith) c.in-Predicate.is (predicate_deeper _ _ _ _) c.decreases, tt)

pub typed_field-child-requires : goal.typed_field-child-requires
typed_field-child-requires t c = (lower 1 3 (size-Tree c.args.owner.value) t (omega arith) c.decreases, tt)

pub typed_unary-child-requires : goal.typed_unary-child-requires
typed_unary-child-requires t c = (lower 1 3 (size-Tree c.args.operand.value) t (omega arith) c.decreases, tt)

pub typed_len-child-requires : goal.typed_len-child-requires
typed_len-child-requires t c = (lower 1 3 (size-Tree c.args.list.value) t (omega arith) c.decreases, tt)

pub typed_is_nil-child-requires : goal.typed_is_nil-child-requires
typed_is_nil-child-requires t c = (lower 1 3 (size-Tree c.args.operand.value) t (omega arith) c.decreases, tt)

pub typed_binary-child-requires : goal.typed_binary-child-requires
typed_binary-child-requires t c = (first_of_two 1 3 (size-Tree c.args.left.value) (size-Tree c.args.right.value) t (omega arith) c.decreases, tt)

pub typed_binary-child-requires-2 : goal.typed_binary-child-requires-2
typed_binary-child-requires-2 t c = (other_of_two 1 3 (size-Tree c.args.left.value) (size-Tree c.args.right.value) t (omega arith) c.decreases, tt)

pub typed_default-child-requires : goal.typed_default-child-requires
typed_default-child-requires t c = (first_of_two 1 3 (size-Tree c.args.operand.value) (size-Tree c.args.otherwise.value) t (omega arith) c.decreases, tt)

pub typed_default-child-requires-2 : goal.typed_default-child-requires-2
typed_default-child-requires-2 t c = (other_of_two 1 3 (size-Tree c.args.operand.value) (size-Tree c.args.otherwise.value) t (omega arith) c.decreases, tt)

pub typed_index-child-requires : goal.typed_index-child-requires
typed_index-child-requires t c = (first_of_two 1 3 (size-Tree c.args.list.value) (size-Tree c.args.index.value) t (omega arith) c.decreases, tt)

pub typed_index-child-requires-2 : goal.typed_index-child-requires-2
typed_index-child-requires-2 t c = (other_of_two 1 3 (size-Tree c.args.list.value) (size-Tree c.args.index.value) t (omega arith) c.decreases, tt)

pub typed_predicate-child-requires : goal.typed_predicate-child-requires
typed_predicate-child-requires t c = (first_of_two 1 3 (size-Tree c.args.list.value) (size-Tree c.args.body.value) t (omega arith) c.decreases, tt)

pub typed_predicate-typed_body-requires : goal.typed_predicate-typed_body-requires
typed_predicate-typed_body-requires t c = (other_of_two 2 3 (size-Tree c.args.list.value) (size-Tree c.args.body.value) t (omega arith) c.decreases, tt)

pub typed_body-child-requires : goal.typed_body-child-requires
typed_body-child-requires t c = (lower 1 2 (size-Tree c.args.body.value) t (omega arith) c.decreases, tt)

pub typed_choice-child-requires : goal.typed_choice-child-requires
typed_choice-child-requires t c = (first_of_two 1 3 (size-Tree c.args.condition.value) (max (size-Tree c.args.then_branch.value) (size-Tree c.args.else_branch.value)) t (omega arith) c.decreases, tt)

pub typed_choice-child-requires-2 : goal.typed_choice-child-requires-2
typed_choice-child-requires-2 t c = (second_of_three 1 3 (size-Tree c.args.condition.value) (size-Tree c.args.then_branch.value) (size-Tree c.args.else_branch.value) t (omega arith) c.decreases, tt)

pub typed_choice-child-requires-3 : goal.typed_choice-child-requires-3
typed_choice-child-requires-3 t c = (third_of_three 1 3 (size-Tree c.args.condition.value) (size-Tree c.args.then_branch.value) (size-Tree c.args.else_branch.value) t (omega arith) c.decreases, tt)
