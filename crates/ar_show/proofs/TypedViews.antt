-- What typed conditions in memory represent, node by node.
use Rattle.std.proofs.Common.{◌≡◌, Box, Global, rules}
use Rattle.ar_value.specs.declared.operator.BinaryOperator.{BinaryOperator}
use Rattle.ar_value.specs.declared.operator.Predicate.{Predicate}
use Rattle.ar_tree.specs.Typed as typed
use Rattle.ar_tree.specs.Views.{typed_view}
use Rattle.ar_tree.specs.declared.typed.Typed.{Typed, Binary as BinaryCode, And as AndCode, Or as OrCode, Choice as ChoiceCode, Predicate as PredicateCode, the_lemmas}

pub typed_view-binary : (operator : BinaryOperator) (left right : Box Typed Global) → typed_view (BinaryCode operator left right) ≡ typed.binary operator (typed_view left.value) (typed_view right.value)
typed_view-binary operator left right = search (rules, the_lemmas)

pub typed_view-and : (left right : Box Typed Global) → typed_view (AndCode left right) ≡ typed.both (typed_view left.value) (typed_view right.value)
typed_view-and left right = search (rules, the_lemmas)

pub typed_view-or : (left right : Box Typed Global) → typed_view (OrCode left right) ≡ typed.either (typed_view left.value) (typed_view right.value)
typed_view-or left right = search (rules, the_lemmas)

pub typed_view-choice : (condition then_branch else_branch : Box Typed Global)
    → typed_view (ChoiceCode condition then_branch else_branch) ≡ typed.choice (typed_view condition.value) (typed_view then_branch.value) (typed_view else_branch.value)
typed_view-choice condition then_branch else_branch = search (rules, the_lemmas)

pub typed_view-predicate : (predicate : Predicate) (list body : Box Typed Global) → typed_view (PredicateCode predicate list body) ≡ typed.predicate predicate (typed_view list.value) (typed_view body.value)
typed_view-predicate predicate list body = search (rules, the_lemmas)
