use Rattle.std.proofs.Common.{◌++◌, ◌∙◌, ap, arith, string_bytes}
use Rattle.std.specs.Prelude.{codes}
use Rattle.std.proofs.lemmas.List.{append-nil}
use Rattle.ar_show.proofs.Joined.{both_sides, three_texts, two_texts}
use Rattle.ar_show.proofs.Sizes.{among_three, and_deeper, binary_deeper, both_below, choice_deeper, field_deeper, first_below, lower, or_deeper, part_below, predicate_deeper, second_below, unary_deeper}
use Rattle.ar_show.proofs.TypedViews.{typed_view-binary, typed_view-choice, typed_view-predicate}
use Rattle.ar_tree.specs.Views.{typed_view}
use Rattle.ar_tree.specs.declared.typed.Typed.{size-Typed}
use Rattle.ar_show.specs.PartText.{shown_part}
use Rattle.ar_show.proofs.parts.+push_part.Goals as goal

pub push_part-returns-in_ok-push_left-in-Binary : goal.push_part-returns-in_ok-push_left-in-Binary
push_part-returns-in_ok-push_left-in-Binary t c =
    rw (c.in-Binary.is, typed_view-binary c.in-Binary.operator c.in-Binary.left c.in-Binary.right, ← c.deref-in-Binary.ensures, ← c.deref-in-Binary-2.ensures)
    (rw (← both_sides c.in-Binary.operator (typed_view c.deref-in-Binary.result.now) (typed_view c.deref-in-Binary-2.result.now) (shown_part (typed_view c.deref-in-Binary.result.now)) (shown_part (typed_view c.deref-in-Binary-2.result.now)))
    (two_texts c.push_right.result (string_bytes c.args.out.now) (string_bytes c.push_left.new.out) (string_bytes c.push_right.new.out) _ _ c.in_ok-push_left-in-Binary.ensures c.push_right.ensures))

pub push_joined-returns : goal.push_joined-returns
push_joined-returns t c =
    two_texts c.push_side.result (string_bytes c.args.out.now) (string_bytes c.push_operand.new.out) (string_bytes c.push_side.new.out) _ _ c.in_ok-push_operand.ensures c.push_side.ensures

pub push_part-returns-in_ok-push_side-in-Choice : goal.push_part-returns-in_ok-push_side-in-Choice
push_part-returns-in_ok-push_side-in-Choice t c =
    rw (c.in-Choice.is, typed_view-choice c.in-Choice.condition c.in-Choice.then_branch c.in-Choice.else_branch, ← c.deref-in-Choice.ensures, ← c.deref-in-Choice-2.ensures, ← c.deref-in-Choice-3.ensures)
    (three_texts c.push_side-in-Choice.result (string_bytes c.args.out.now) (string_bytes c.push_operand.new.out) (string_bytes c.push_side.new.out) (string_bytes c.push_side-in-Choice.new.out) _ _ _
    c.in_ok-push_operand-in-Choice.ensures c.in_ok-push_side-in-Choice.ensures c.push_side-in-Choice.ensures)

pub push_part-returns-in_ok-push_enclosed-in-Predicate : goal.push_part-returns-in_ok-push_enclosed-in-Predicate
push_part-returns-in_ok-push_enclosed-in-Predicate t c =
    rw (c.in-Predicate.is, typed_view-predicate c.in-Predicate.predicate c.in-Predicate.list c.in-Predicate.body, ← c.predicate_word.ensures, ← c.deref-in-Predicate.ensures, ← c.deref-in-Predicate-2.ensures)
    (three_texts c.push_enclosed-in-Predicate.result (string_bytes c.args.out.now) (string_bytes c.push_str-in-Predicate.new.self) (string_bytes c.push_enclosed.new.out) (string_bytes c.push_enclosed-in-Predicate.new.out)
    _ (codes "(" ++ shown_part (typed_view c.deref-in-Predicate.result.now)) _ c.in_ok-push_str-in-Predicate.ensures.bytes
    (c.in_ok-push_enclosed-in-Predicate.ensures ∙ ap (λ text. string_bytes c.push_str-in-Predicate.new.self ++ (codes "(" ++ text)) (append-nil (shown_part (typed_view c.deref-in-Predicate.result.now))))
    c.push_enclosed-in-Predicate.ensures)

pub push_part-push_field-requires : goal.push_part-push_field-requires
push_part-push_field-requires t c = (part_below 3 _ _ _ _ t (omega arith) c.deref.ensures c.in-Field.is (field_deeper _ _) c.decreases, tt)

pub push_part-push_unary-requires : goal.push_part-push_unary-requires
push_part-push_unary-requires t c = (part_below 4 _ _ _ _ t (omega arith) c.deref-in-Unary.ensures c.in-Unary.is (unary_deeper _ _) c.decreases, tt)

pub push_part-push_left-requires : goal.push_part-push_left-requires
push_part-push_left-requires t c = (first_below 3 _ _ _ _ _ t (omega arith) c.deref-in-Binary.ensures c.in-Binary.is (binary_deeper _ _ _) c.decreases, tt)

pub push_part-push_right-requires : goal.push_part-push_right-requires
push_part-push_right-requires t c = (second_below 4 _ _ _ _ _ t (omega arith) c.deref-in-Binary-2.ensures c.in-Binary.is (binary_deeper _ _ _) c.decreases, tt)

pub push_part-push_joined-requires : goal.push_part-push_joined-requires
push_part-push_joined-requires t c = (both_below 4 _ _ _ _ _ _ t (omega arith) c.deref-in-And.ensures c.deref-in-And-2.ensures c.in-And.is (and_deeper _ _) c.decreases, tt)

pub push_part-push_joined-requires-in-Or : goal.push_part-push_joined-requires-in-Or
push_part-push_joined-requires-in-Or t c = (both_below 4 _ _ _ _ _ _ t (omega arith) c.deref-in-Or.ensures c.deref-in-Or-2.ensures c.in-Or.is (or_deeper _ _) c.decreases, tt)

pub push_part-push_enclosed-requires : goal.push_part-push_enclosed-requires
push_part-push_enclosed-requires t c = (first_below 1 _ _ _ _ _ t (omega arith) c.deref-in-Predicate.ensures c.in-Predicate.is (predicate_deeper _ _ _) c.decreases, tt)

pub push_part-push_enclosed-requires-in-Predicate : goal.push_part-push_enclosed-requires-in-Predicate
push_part-push_enclosed-requires-in-Predicate t c = (second_below 1 _ _ _ _ _ t (omega arith) c.deref-in-Predicate-2.ensures c.in-Predicate.is (predicate_deeper _ _ _) c.decreases, tt)

pub push_part-push_operand-requires : goal.push_part-push_operand-requires
push_part-push_operand-requires t c = (among_three 2 _ _ _ _ _ _ _ t (omega arith) c.deref-in-Choice.ensures c.in-Choice.is (choice_deeper c.in-Choice.condition c.in-Choice.then_branch c.in-Choice.else_branch) (omega arith) c.decreases, tt)

pub push_part-push_side-requires : goal.push_part-push_side-requires
push_part-push_side-requires t c = (among_three 3 _ _ _ _ _ _ _ t (omega arith) c.deref-in-Choice-2.ensures c.in-Choice.is (choice_deeper c.in-Choice.condition c.in-Choice.then_branch c.in-Choice.else_branch) (omega arith) c.decreases, tt)

pub push_part-push_side-requires-in-Choice : goal.push_part-push_side-requires-in-Choice
push_part-push_side-requires-in-Choice t c = (among_three 3 _ _ _ _ _ _ _ t (omega arith) c.deref-in-Choice-3.ensures c.in-Choice.is (choice_deeper c.in-Choice.condition c.in-Choice.then_branch c.in-Choice.else_branch) (omega arith) c.decreases, tt)

pub push_operand-push_enclosed-requires : goal.push_operand-push_enclosed-requires
push_operand-push_enclosed-requires t c = (lower 1 2 (size-Typed c.args.part.now) t (omega arith) c.decreases, tt)

pub push_owner-push_enclosed-requires : goal.push_owner-push_enclosed-requires
push_owner-push_enclosed-requires t c = (lower 1 2 (size-Typed c.args.part.now) t (omega arith) c.decreases, tt)

pub push_unary-push_enclosed-requires : goal.push_unary-push_enclosed-requires
push_unary-push_enclosed-requires t c = (lower 1 4 (size-Typed c.args.operand.now) t (omega arith) c.decreases, tt)

pub push_unary-push_signed-requires : goal.push_unary-push_signed-requires
push_unary-push_signed-requires t c = (lower 3 4 (size-Typed c.args.operand.now) t (omega arith) c.decreases, tt)

pub push_left-push_owner-requires : goal.push_left-push_owner-requires
push_left-push_owner-requires t c = (lower 2 3 (size-Typed c.args.left.now) t (omega arith) c.decreases, tt)

pub push_left-push_enclosed-requires : goal.push_left-push_enclosed-requires
push_left-push_enclosed-requires t c = (lower 1 3 (size-Typed c.args.left.now) t (omega arith) c.decreases, tt)

pub push_left-push_operand-requires : goal.push_left-push_operand-requires
push_left-push_operand-requires t c = (lower 2 3 (size-Typed c.args.left.now) t (omega arith) c.decreases, tt)

pub push_right-push_enclosed-requires : goal.push_right-push_enclosed-requires
push_right-push_enclosed-requires t c = (lower 1 4 (size-Typed c.args.right.now) t (omega arith) c.decreases, tt)

pub push_right-push_side-requires : goal.push_right-push_side-requires
push_right-push_side-requires t c = (lower 3 4 (size-Typed c.args.right.now) t (omega arith) c.decreases, tt)
