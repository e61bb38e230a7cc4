use Rattle.std.proofs.Common.{max, arith}
use Rattle.ar_tree.specs.Views.{expression_of}
use Rattle.ar_tree.specs.declared.tree.Tree.{size-Tree}
use Rattle.ar_check.proofs.Offsets.{found_over}
use Rattle.ar_check.proofs.Sizes.{binary_deeper, choice_deeper, default_deeper, field_deeper, first_of_two, index_deeper, is_nil_deeper, len_deeper, lower, other_of_two, part_below, predicate_deeper, unary_deeper}
use Rattle.ar_check.proofs.found.+found_in.Goals as goal

pub in_body_over-returns : goal.in_body_over-returns
in_body_over-returns t c =
    found_over c.in_child.result c.args.scope.now c.in_predicate-inside.result c.args.offset (expression_of c.args.body.value) _ _
    c.in_predicate-inside.ensures.measured c.in_predicate-inside.ensures.item c.in_predicate-inside.ensures.around c.in-Some.ensures.item c.in_child.ensures

pub found_in-in_field-requires : goal.found_in-in_field-requires
found_in-in_field-requires t c = (part_below 2 _ _ _ t (omega arith) c.in-Field.is (field_deeper _ _ _) c.decreases, tt)

pub found_in-in_index-requires : goal.found_in-in_index-requires
found_in-in_index-requires t c = (part_below 3 _ _ _ t (omega arith) c.in-Index.is (index_deeper _ _ _) c.decreases, tt)

pub found_in-in_operand-requires : goal.found_in-in_operand-requires
found_in-in_operand-requires t c = (part_below 2 _ _ _ t (omega arith) c.in-Unary.is (unary_deeper _ _ _) c.decreases, tt)

pub found_in-in_binary-requires : goal.found_in-in_binary-requires
found_in-in_binary-requires t c = (part_below 3 _ _ _ t (omega arith) c.in-Binary.is (binary_deeper _ _ _ _) c.decreases, tt)

pub found_in-in_choice-requires : goal.found_in-in_choice-requires
found_in-in_choice-requires t c = (part_below 3 _ _ _ t (omega arith) c.in-Choice.is (choice_deeper _ _ _ _) c.decreases, tt)

pub found_in-in_child-requires : goal.found_in-in_child-requires
found_in-in_child-requires t c = (part_below 1 _ _ _ t (omega arith) c.in-Len.is (len_deeper _ _) c.decreases, tt)

pub found_in-in_child-requires-in-IsNil : goal.found_in-in_child-requires-in-IsNil
found_in-in_child-requires-in-IsNil t c = (part_below 1 _ _ _ t (omega arith) c.in-IsNil.is (is_nil_deeper _ _) c.decreases, tt)

pub found_in-in_either-requires : goal.found_in-in_either-requires
found_in-in_either-requires t c = (part_below 2 _ _ _ t (omega arith) c.in-Default.is (default_deeper _ _ _) c.decreases, tt)

pub found_in-in_list_or_body-requires : goal.found_in-in_list_or_body-requires
found_in-in_list_or_body-requires t c = (part_below 4 _ _ _ t (omega arith) c.in-Predicate.is (predicate_deeper _ _ _ _) c.decreases, tt)

pub in_either-in_child-requires : goal.in_either-in_child-requires
in_either-in_child-requires t c = (first_of_two 1 2 (size-Tree c.args.first.value) (size-Tree c.args.other.value) t (omega arith) c.decreases, tt)

pub in_either-in_child-requires-in-None : goal.in_either-in_child-requires-in-None
in_either-in_child-requires-in-None t c = (other_of_two 1 2 (size-Tree c.args.first.value) (size-Tree c.args.other.value) t (omega arith) c.decreases, tt)

pub in_field-in_child-requires : goal.in_field-in_child-requires
in_field-in_child-requires t c = (lower 1 2 (size-Tree c.args.owner.value) t (omega arith) c.decreases, tt)

pub in_operand-in_child-requires : goal.in_operand-in_child-requires
in_operand-in_child-requires t c = (lower 1 2 (size-Tree c.args.operand.value) t (omega arith) c.decreases, tt)

pub in_index-in_either-requires : goal.in_index-in_either-requires
in_index-in_either-requires t c = (lower 2 3 (max (size-Tree c.args.list.value) (size-Tree c.args.index.value)) t (omega arith) c.decreases, tt)

pub in_binary-in_either-requires : goal.in_binary-in_either-requires
in_binary-in_either-requires t c = (lower 2 3 (max (size-Tree c.args.left.value) (size-Tree c.args.right.value)) t (omega arith) c.decreases, tt)

pub in_list_or_body-in_body-requires : goal.in_list_or_body-in_body-requires
in_list_or_body-in_body-requires t c = (lower 3 4 (max (size-Tree c.args.list.value) (size-Tree c.args.body.value)) t (omega arith) c.decreases, tt)

pub in_body_over-in_child-requires : goal.in_body_over-in_child-requires
in_body_over-in_child-requires t c = (lower 1 2 (size-Tree c.args.body.value) t (omega arith) c.decreases, tt)
