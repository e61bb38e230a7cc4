-- What trees in memory say, and what typed trees in memory represent.
use Rattle.ar_tree.specs.Expression.{Expression, Expressions, ResultAt, ItemAt, LiteralAt, FieldAt, IndexAt, UnaryAt, BinaryAt, ChoiceAt, ListAt, LenAt, IsNilAt, DefaultAt, PredicateAt, expressions}
use Rattle.ar_tree.specs.declared.tree.Tree.{Tree, fold-Tree}
use Rattle.ar_tree.specs.declared.tree.Tree.TheOpen.{Tree-F, Trees-F}
use Rattle.ar_tree.specs.Typed.{Typed, Typeds, typeds}
use Rattle.ar_tree.specs.Typed as typed
use Rattle.ar_tree.specs.declared.typed.Typed.{Typed as TypedCode, fold-Typed}
use Rattle.ar_tree.specs.declared.typed.Typed.TheOpen.{Typed-F, TypedItems-F}

-- ---- trees

-- one node, with the children already seen
abbrev pub node_view : Tree-F Expression Expressions → Expression
node_view (Tree-F.Result at) = ResultAt at
node_view (Tree-F.Item at) = ItemAt at
node_view (Tree-F.Literal at literal) = LiteralAt at literal
node_view (Tree-F.Field at owner name) = FieldAt at owner.value name
node_view (Tree-F.Index at list index) = IndexAt at list.value index.value
node_view (Tree-F.Unary at operator operand) = UnaryAt at operator operand.value
node_view (Tree-F.Binary at operator left right) = BinaryAt at operator left.value right.value
node_view (Tree-F.Choice at condition then_branch else_branch) =
    ChoiceAt at condition.value then_branch.value else_branch.value
node_view (Tree-F.List at items) = ListAt at items
node_view (Tree-F.Len at list) = LenAt at list.value
node_view (Tree-F.IsNil at operand) = IsNilAt at operand.value
node_view (Tree-F.Default at operand otherwise) = DefaultAt at operand.value otherwise.value
node_view (Tree-F.Predicate at predicate list body) = PredicateAt at predicate list.value body.value

-- trees in order, already seen
abbrev pub trees_view : Trees-F Expression Expressions → Expressions
trees_view trees = expressions trees.items.items

abbrev pub expression_of : Tree → Expression
expression_of = fold-Tree Expression Expressions node_view trees_view

-- ---- typed trees

-- one node, with its children already seen
abbrev pub typed_step : Typed-F Typed Typeds → Typed
typed_step Typed-F.Result = typed.result
typed_step Typed-F.Item = typed.item
typed_step (Typed-F.Literal literal) = typed.literal literal
typed_step (Typed-F.Field owner name) = typed.field owner.value name
typed_step (Typed-F.Unary operator operand) = typed.unary operator operand.value
typed_step (Typed-F.Binary operator left right) = typed.binary operator left.value right.value
typed_step (Typed-F.And left right) = typed.both left.value right.value
typed_step (Typed-F.Or left right) = typed.either left.value right.value
typed_step (Typed-F.Choice condition then_branch else_branch) =
    typed.choice condition.value then_branch.value else_branch.value
typed_step (Typed-F.List scalar items) = typed.listed scalar items
typed_step (Typed-F.Predicate predicate list body) = typed.predicate predicate list.value body.value

abbrev pub typed_items_step : TypedItems-F Typed Typeds → Typeds
typed_items_step t = typeds t.items.items

abbrev pub typed_view : TypedCode → Typed
typed_view = fold-Typed Typed Typeds typed_step typed_items_step
