-- What operands, items and scopes in memory represent, of which no public contract speaks.
use Rattle.std.specs.Global.{Box}
use Rattle.std.specs.Prelude.{ℕ, suc, Bool, false, ◌&&◌, if◌then◌else◌, List, Option, Some, option_map, Result, Ok, Err}
use Rattle.ar_value.specs.declared.operator.UnaryOperator.TheVariants as unary
use Rattle.ar_value.specs.Answer.{◌>>=◌}
use Rattle.ar_value.specs.Kind.{Kind, is_decimal, plain, boolean_kind}
use Rattle.ar_value.specs.Kind as kind
use Rattle.ar_value.specs.Shape.{Shape}
use Rattle.ar_value.specs.View.{shape_view}
use Rattle.ar_tree.specs.Expression.{Expression, Expressions}
use Rattle.ar_check.specs.Check.{Answer, Item, LeftIsNil, NeitherIsNil, NilSide, RightIsNil, item_shape, item_typed, items_typed, typed_of, where_wanted}
use Rattle.ar_check.specs.Operand.{Operand, is_boolean, is_whole, unwrapped, operand, plain_of, scalar_of}
use Rattle.ar_tree.specs.Typed.{Typed}
use Rattle.ar_tree.specs.Typed as typed
use Rattle.ar_tree.specs.Views.{typed_view}
use Rattle.ar_check.specs.declared.error.TypeError.{TypeError}
use Rattle.ar_value.specs.declared.operator.Scalar.{Scalar}
use Rattle.ar_check.specs.declared.build.Connective.{Connective}
use Rattle.ar_check.specs.declared.build.Connective.TheVariants.{And, Or}
use Rattle.ar_check.specs.declared.list.Item as items
use Rattle.ar_check.specs.declared.operand.Kind as code
use Rattle.ar_check.specs.declared.operand.Kind.TheVariants as kinds
use Rattle.ar_check.specs.declared.operand.Operand as operands
use Rattle.ar_check.specs.declared.typing.Scope.{Scope}

-- the kind of an operand, wherever its shape is
abbrev pub view_of_kind : code.Kind → Kind
view_of_kind kinds.Nil = kind.nil
view_of_kind (kinds.Declared shape) = kind.shaped (shape_view shape.now)
view_of_kind (kinds.Made shape) = kind.shaped (shape_view shape)

abbrev pub operand_view : operands.Operand → Operand
operand_view o = operand (typed_view o.tree.value) (view_of_kind o.kind)

abbrev pub boxed_view : Box operands.Operand → Operand
boxed_view o = operand_view o.value

-- a shape's answer as a kind's
abbrev pub shaped_answer : Result Shape TypeError → Result Kind TypeError
shaped_answer (Ok shape) = Ok (kind.shaped shape)
shaped_answer (Err error) = Err error

-- an item of a list literal
abbrev pub item_view : items.Item → Item
item_view i = record { at = i.at; scalar = i.scalar; tree = typed_view i.tree.value }

-- the shape of a scope's innermost item
abbrev pub innermost_of : Scope → Option Shape
innermost_of scope = option_map (λ shape. shape_view shape.now) scope.item

-- a tree typed in a scope
abbrev pub typed_in : Scope → Expression → Answer
typed_in scope tree = typed_of (shape_view scope.measured.now) (innermost_of scope) scope.around tree

-- items of a list literal, likewise
abbrev pub items_in_scope : Scope → Expressions → Result (List Item) TypeError
items_in_scope scope trees = items_typed (shape_view scope.measured.now) (innermost_of scope) scope.around trees

abbrev pub item_in : Scope → Expression → Result Item TypeError
item_in scope tree = item_typed (shape_view scope.measured.now) (innermost_of scope) scope.around tree

-- a predicate's body, where items have a shape
abbrev pub inside : Scope → Shape → Expression → Answer
inside scope shape body = typed_of (shape_view scope.measured.now) (Some shape) (suc scope.around) body

-- what scalar a list's items are once they are plain
abbrev pub item_scalar : ℕ → Kind → Result (Option Scalar) TypeError
item_scalar at list = item_shape at (plain_of list) >>= λ shape. Ok (scalar_of (plain shape))

-- two booleans, connected
abbrev pub connected : Connective → Typed → Typed → Typed
connected And left right = typed.both left right
connected Or left right = typed.either left right

abbrev pub connected_of : ℕ → Connective → Operand → Operand → Answer
connected_of at by left right =
    where_wanted at (is_boolean left && is_boolean right) (connected by (unwrapped left) (unwrapped right)) boolean_kind

-- whether a tree of a kind is a whole next to a decimal, and the tree, where it is converted
abbrev pub turns : Kind → Kind → Bool
turns (kind.shaped other) (kind.shaped shape) = is_decimal other && is_whole (plain shape)
turns other of = false

abbrev pub converted_where : Bool → Typed → Typed
converted_where is_converted tree = if is_converted then typed.unary unary.ToDecimal tree else tree

-- which operand is the literal `nil`, by tests of both
abbrev pub side_by : (nil_left nil_right : Bool) → NilSide
side_by nil_left nil_right =
    if nil_left then LeftIsNil
    else (if nil_right then RightIsNil
    else NeitherIsNil)
