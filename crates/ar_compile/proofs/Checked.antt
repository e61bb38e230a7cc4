-- What is checked is within limits where the tree as written is: kinds add no items and lengthen no text or name.
use Rattle.ar_value.specs.Operators.{same_family}
use Rattle.std.proofs.Common.{◌≡◌, ℕ, suc, Bool, true, false, List, [], ◌∷◌, length, map, Option, Some, None, Result, Ok, Err, IfOk, refl, sym, ap, subst}
use Rattle.std.specs.Prelude.{◌&&◌, ◌≤◌, if◌then◌else◌}
use Rattle.ar_value.specs.declared.operator.BinaryOperator.TheVariants as binary
use Rattle.ar_value.specs.declared.operator.UnaryOperator.TheVariants as unary
use Rattle.ar_value.specs.Answer.{◌>>=◌}
use Rattle.ar_value.specs.Kind.{Kind, nil, shaped, common, is_decimal, is_optional, plain, boolean_kind}
use Rattle.ar_value.specs.Shape.{Shape}
use Rattle.ar_value.specs.Shape as shapes
use Rattle.ar_value.specs.declared.operator.Arithmetic.{Arithmetic}
use Rattle.ar_value.specs.declared.operator.Arithmetic.TheVariants.{Add, Subtract, Multiply, Divide, Remainder}
use Rattle.ar_value.specs.declared.operator.BinaryOperator.{BinaryOperator}
use Rattle.ar_value.specs.declared.operator.Numbers.{Numbers}
use Rattle.ar_value.specs.declared.operator.Numbers.TheVariants.{Wholes, Decimals}
use Rattle.ar_value.specs.declared.operator.Order.{Order}
use Rattle.ar_value.specs.declared.operator.Order.TheVariants.{Less, LessOrEqual, Greater, GreaterOrEqual}
use Rattle.ar_value.specs.declared.operator.Predicate.{Predicate}
use Rattle.ar_value.specs.declared.operator.Scalar.{Scalar}
use Rattle.ar_value.specs.declared.operator.Scalar.TheVariants as scalars
use Rattle.ar_value.specs.Limits.{most_literal_items}
use Rattle.ar_tree.specs.Expression.{Expression, Expressions, expression_count, offset_of}
use Rattle.ar_tree.specs.Expression as trees
use Rattle.ar_tree.specs.Limits.{AllInLimits, AllWrittenInLimits, InLimits, IsShort, WrittenInLimits}
use Rattle.ar_tree.specs.declared.tree.Binary.{Binary}
use Rattle.ar_tree.specs.declared.tree.Binary.TheVariants as binaries
use Rattle.ar_tree.specs.declared.tree.Comparison.{Comparison}
use Rattle.ar_tree.specs.declared.tree.Comparison.TheVariants as comparisons
use Rattle.ar_tree.specs.declared.tree.Unary.{Unary}
use Rattle.ar_tree.specs.declared.tree.Unary.TheVariants as unaries
use Rattle.ar_tree.specs.Typed.{Typed, Typeds, how_many, typeds}
use Rattle.ar_tree.specs.Typed as typed
use Rattle.ar_check.specs.Check.{Answer, Item, arithmetic_kind, arithmetic_on, binary_of, body_of, calculation_of, checked, choice_in, choice_of, choice_tree, common_of, comparison_of, condition_of, common_default, default_of, default_tree, predicate_entered, equal_of, equality_of, field_of, field_shape, given, in_common, in_of, index_of, innermost, is_nil_literal, is_whole_number, item_of, item_shape, items_typed, len_of, list_in_common, list_literal_of, member_of, negated, negation_of, no_scalar, ordered_of, ordering_of, over_items, plain_kind, plus_of, predicate_kind, predicate_of, arithmetic_in, where_there, converted_item, typed_of, unary_of, where_wanted, widened}
use Rattle.ar_check.specs.Operand.{Operand, among, scalar_family, is_text_operand, is_boolean, is_whole, unwrapped, numbers, plain_of, plain_tree, scalar, scalar_of, converted}
use Rattle.ar_check.specs.declared.error.TypeError.{TypeError}
use Rattle.ar_check.specs.declared.error.TypeError.TheVariants.{NotTruth}
use Rattle.ar_check.proofs.Means.{answers}
use Rattle.ar_check.specs.Private.Inside.{side_by}

abbrev Within : Operand → Type 0
Within operand = InLimits operand.tree

-- what an answer leads to, where all that it may be leads there
after : {A B : Type 0} (Q : B → Type 0) (answer : Result A TypeError) (f : A → Result B TypeError) → ((x : A) → IfOk (f x) Q) → IfOk (answer >>= f) Q
after Q (Ok x) f each = each x
after Q (Err error) f each = tt

wanted_within : (at : ℕ) (is_wanted : Bool) (tree : Typed) (kind : Kind) → InLimits tree → IfOk (where_wanted at is_wanted tree kind) Within
wanted_within at true tree kind h = h
wanted_within at false tree kind h = tt

-- ---- what is unwrapped, and what is converted to decimal

plain_chosen : (test : Bool) (tree : Typed) → InLimits tree → InLimits (if test then typed.unary unary.Need tree else tree)
plain_chosen true tree h = h
plain_chosen false tree h = h

plain_tree_within : (kind : Kind) (tree : Typed) → InLimits tree → InLimits (plain_tree kind tree)
plain_tree_within nil tree h = h
plain_tree_within (shaped shape) tree h = plain_chosen (is_optional shape) tree h

plain_within : (operand : Operand) → Within operand → InLimits (unwrapped operand)
plain_within operand h = plain_tree_within operand.kind operand.tree h

among_within : (other numbers : Numbers) (tree : Typed) → InLimits tree → InLimits (among other numbers tree)
among_within Decimals Wholes tree h = h
among_within other numbers tree h = h

converted_chosen : (test : Bool) (tree : Typed) → InLimits tree → InLimits (if test then typed.unary unary.ToDecimal tree else tree)
converted_chosen true tree h = h
converted_chosen false tree h = h

converted_within : (other kind : Kind) (tree : Typed) → InLimits tree → InLimits (converted other kind tree)
converted_within nil kind tree h = h
converted_within (shaped other) nil tree h = h
converted_within (shaped other) (shaped shape) tree h = converted_chosen (is_decimal other && is_whole (plain shape)) tree h

-- ---- items, fields and lists

item_within : (at : ℕ) (shape : Option Shape) → IfOk (innermost at shape) Within
item_within at (Some shape) = tt
item_within at None = tt

field_within : (at : ℕ) (name : List ℕ) (owner : Operand) → IsShort name → Within owner → IfOk (field_of at name owner) Within
field_within at name owner few h = after Within (field_shape at name (plain_of owner.kind)) (λ shape. given (typed.field (unwrapped owner) name) (shaped shape)) (λ shape. (plain_within owner h, few))

len_within : (at : ℕ) (list : Operand) → Within list → IfOk (len_of at list) Within
len_within at list h = after Within (item_shape at (plain_of list.kind)) (λ shape. given (typed.unary unary.Len (unwrapped list)) (shaped shapes.whole)) (λ shape. plain_within list h)

index_within : (at : ℕ) (list position : Operand) → Within list → Within position → IfOk (index_of at list position) Within
index_within at list position h k =
    after Within (item_shape at (plain_of list.kind)) (λ shape. where_wanted at (is_whole_number (scalar position)) (typed.binary binary.Index (unwrapped list) (unwrapped position)) (shaped shape))
    (λ shape. wanted_within at (is_whole_number (scalar position)) (typed.binary binary.Index (unwrapped list) (unwrapped position)) (shaped shape) (plain_within list h, plain_within position k))

-- ---- numbers

there_within : (at : ℕ) (found : Option BinaryOperator) (left right : Typed) (kind : Kind) → InLimits left → InLimits right → IfOk (where_there at found left right kind) Within
there_within at (Some operator) left right kind h k = (h, k)
there_within at None left right kind h k = tt

arithmetic_within : (at : ℕ) (operator : Arithmetic) (m n : Option Numbers) (left right : Typed) → InLimits left → InLimits right → IfOk (arithmetic_on at operator m n left right) Within
arithmetic_within at operator (Some m) (Some n) left right h k =
    there_within at (arithmetic_in (widened m n) operator) (among n m left) (among m n right) (arithmetic_kind operator (widened m n)) (among_within n m left h) (among_within m n right k)
arithmetic_within at operator (Some m) None left right h k = tt
arithmetic_within at operator None n left right h k = tt

sum_within : (at : ℕ) (operator : Arithmetic) (left right : Operand) → Within left → Within right → IfOk (calculation_of at operator left right) Within
sum_within at operator left right h k = arithmetic_within at operator (numbers left) (numbers right) (unwrapped left) (unwrapped right) (plain_within left h) (plain_within right k)

ordered_within : (at : ℕ) (way : Order) (m n : Option Numbers) (left right : Typed) → InLimits left → InLimits right → IfOk (ordered_of at way m n left right) Within
ordered_within at way (Some m) (Some n) left right h k = (h, k)
ordered_within at way (Some m) None left right h k = tt
ordered_within at way None n left right h k = tt

order_within : (at : ℕ) (way : Order) (left right : Operand) → Within left → Within right → IfOk (ordering_of at way left right) Within
order_within at way left right h k = ordered_within at way (numbers left) (numbers right) (unwrapped left) (unwrapped right) (plain_within left h) (plain_within right k)

negative_within : (at : ℕ) (found : Option Numbers) (tree : Typed) → InLimits tree → IfOk (negation_of at found tree) Within
negative_within at (Some found) tree h = h
negative_within at None tree h = tt

positive_within : (at : ℕ) (found : Option Numbers) (tree : Typed) → InLimits tree → IfOk (plus_of at found tree) Within
positive_within at (Some found) tree h = h
positive_within at None tree h = tt

unary_within : (at : ℕ) (operator : Unary) (operand : Operand) → Within operand → IfOk (unary_of at operator operand) Within
unary_within at unaries.Minus operand h = negative_within at (numbers operand) (unwrapped operand) (plain_within operand h)
unary_within at unaries.Plus operand h = positive_within at (numbers operand) (unwrapped operand) (plain_within operand h)
unary_within at unaries.Not operand h = wanted_within at (is_boolean operand) (typed.unary unary.Not (unwrapped operand)) boolean_kind (plain_within operand h)

-- ---- equality and membership

negated_within : (answer : Answer) → IfOk answer Within → IfOk (answer >>= negated) Within
negated_within (Ok operand) h = h
negated_within (Err error) h = tt

equal_within : (at : ℕ) (m n : Option Scalar) (left right : Typed) → InLimits left → InLimits right → IfOk (equal_of at m n left right) Within
equal_within at (Some m) (Some n) left right h k = wanted_within at (same_family (scalar_family m) (scalar_family n)) (typed.binary (binary.Equal (scalar_family m)) left right) boolean_kind (h, k)
equal_within at (Some m) None left right h k = tt
equal_within at None n left right h k = tt

equality_within : (at : ℕ) (nil_left nil_right : Bool) (left right : Operand) → Within left → Within right → IfOk (equality_of at (side_by nil_left nil_right) left right) Within
equality_within at true nil_right left right h k = k
equality_within at false true left right h k = h
equality_within at false false left right h k = equal_within at (scalar left) (scalar right) left.tree right.tree h k

member_within : (at : ℕ) (m n : Option Scalar) (operand list : Typed) → InLimits operand → InLimits list → IfOk (member_of at m n operand list) Within
member_within at (Some m) (Some n) operand list h k = wanted_within at (same_family (scalar_family m) (scalar_family n)) (typed.binary binary.IsIn operand list) boolean_kind (h, k)
member_within at (Some m) None operand list h k = tt
member_within at None n operand list h k = tt

in_within : (at : ℕ) (left right : Operand) → Within left → Within right → IfOk (in_of at left right) Within
in_within at left right h k =
    after Within (item_shape at (plain_of right.kind)) (λ shape. member_of at (scalar left) (scalar_of (plain shape)) left.tree (unwrapped right))
    (λ shape. member_within at (scalar left) (scalar_of (plain shape)) left.tree (unwrapped right) h (plain_within right k))

-- ---- operators

comparison_within : (at : ℕ) (comparison : Comparison) (nil_left nil_right : Bool) (left right : Operand) → Within left → Within right → IfOk (comparison_of at comparison (side_by nil_left nil_right) left right) Within
comparison_within at comparisons.Equal nil_left nil_right left right h k = equality_within at nil_left nil_right left right h k
comparison_within at comparisons.NotEqual nil_left nil_right left right h k = negated_within (equality_of at (side_by nil_left nil_right) left right) (equality_within at nil_left nil_right left right h k)
comparison_within at comparisons.Less nil_left nil_right left right h k = order_within at Less left right h k
comparison_within at comparisons.LessOrEqual nil_left nil_right left right h k = order_within at LessOrEqual left right h k
comparison_within at comparisons.Greater nil_left nil_right left right h k = order_within at Greater left right h k
comparison_within at comparisons.GreaterOrEqual nil_left nil_right left right h k = order_within at GreaterOrEqual left right h k

binary_within : (at : ℕ) (operator : Binary) (nil_left nil_right : Bool) (left right : Operand) → Within left → Within right → IfOk (binary_of at operator (side_by nil_left nil_right) left right) Within
binary_within at binaries.Or nil_left nil_right left right h k = wanted_within at (is_boolean left && is_boolean right) (typed.either (unwrapped left) (unwrapped right)) boolean_kind (plain_within left h, plain_within right k)
binary_within at binaries.And nil_left nil_right left right h k = wanted_within at (is_boolean left && is_boolean right) (typed.both (unwrapped left) (unwrapped right)) boolean_kind (plain_within left h, plain_within right k)
binary_within at (binaries.Comparison comparison) nil_left nil_right left right h k = comparison_within at comparison nil_left nil_right left right h k
binary_within at binaries.In nil_left nil_right left right h k = in_within at left right h k
binary_within at binaries.NotIn nil_left nil_right left right h k = negated_within (in_of at left right) (in_within at left right h k)
binary_within at (binaries.TextTest test) nil_left nil_right left right h k =
    wanted_within at (is_text_operand left && is_text_operand right) (typed.binary (binary.TextTest test) (unwrapped left) (unwrapped right)) boolean_kind (plain_within left h, plain_within right k)
binary_within at binaries.Add nil_left nil_right left right h k = sum_within at Add left right h k
binary_within at binaries.Subtract nil_left nil_right left right h k = sum_within at Subtract left right h k
binary_within at binaries.Multiply nil_left nil_right left right h k = sum_within at Multiply left right h k
binary_within at binaries.Divide nil_left nil_right left right h k = sum_within at Divide left right h k
binary_within at binaries.Remainder nil_left nil_right left right h k = sum_within at Remainder left right h k

-- ---- choices and defaults

choice_found : (at : ℕ) (found : Option Kind) (is_wanted : Bool) (tree : Typed) → InLimits tree → IfOk (choice_in at found is_wanted tree) Within
choice_found at (Some kind) is_wanted tree h = wanted_within at is_wanted tree kind h
choice_found at None is_wanted tree h = tt

choice_within : (at : ℕ) (condition then_branch else_branch : Operand) → Within condition → Within then_branch → Within else_branch → IfOk (choice_of at condition then_branch else_branch) Within
choice_within at condition then_branch else_branch h k l =
    choice_found at (common then_branch.kind else_branch.kind) (is_boolean condition) (choice_tree (unwrapped condition) then_branch else_branch)
    (plain_within condition h, converted_within else_branch.kind then_branch.kind then_branch.tree k, converted_within then_branch.kind else_branch.kind else_branch.tree l)

default_found : (at : ℕ) (tree : Typed) (found : Option Kind) → InLimits tree → IfOk (in_common at tree found) Within
default_found at tree (Some kind) h = h
default_found at tree None h = tt

default_within : (at : ℕ) (first other : Operand) → Within first → Within other → IfOk (default_of at first other) Within
default_within at first other h k =
    default_found at (default_tree first.tree (plain_kind first.kind) other.tree other.kind) (common_default (plain_kind first.kind) other.kind)
    (converted_within other.kind (plain_kind first.kind) first.tree h, converted_within (plain_kind first.kind) other.kind other.tree k)

-- ---- list literals

abbrev AllWithin : List Item → Type 0
AllWithin [] = Unit {0}
AllWithin (item ∷ items) = InLimits item.tree × AllWithin items

item_converted : (found : Scalar) (of : Option Scalar) (tree : Typed) → InLimits tree → InLimits (converted_item found of tree)
item_converted scalars.Decimal (Some scalars.Whole) tree h = h
item_converted found of tree h = h

abbrev converted_items : Scalar → List Item → Typeds
converted_items found items = typeds (map (λ item. converted_item found item.scalar item.tree) items)

all_converted : (found : Scalar) (items : List Item) → AllWithin items → AllInLimits (converted_items found items)
all_converted found [] h = tt
all_converted found (item ∷ items) h = (item_converted found item.scalar item.tree h.0, all_converted found items h.1)

as_many : (found : Scalar) (items : List Item) → how_many (converted_items found items) ≡ length items
as_many found [] = refl
as_many found (item ∷ items) = ap suc (as_many found items)

in_common_within : (at : ℕ) (items : List Item) (found : Option Scalar) → length items ≤ most_literal_items → AllWithin items → IfOk (list_in_common at items found) Within
in_common_within at items (Some found) few h = (all_converted found items h, rw (as_many found items) few)
in_common_within at items None few h = tt

list_within : (at : ℕ) (items : List Item) (index : Option ℕ) → length items ≤ most_literal_items → AllWithin items → IfOk (list_literal_of at items index) Within
list_within at items (Some index) few h = tt
list_within at items None few h = in_common_within at items (common_of items) few h

-- items that are within limits, as many as were written
abbrev Found : Expressions → List Item → Type 0
Found written items = AllWithin items × (length items ≡ expression_count written)

-- ---- predicates

abbrev BodyWithin : Bool × Typed → Type 0
BodyWithin body = InLimits body.1

over_within : (around at : ℕ) (kind : Kind) (found : Shape → Answer) → ((shape : Shape) → IfOk (found shape) Within) → IfOk (over_items at around kind found) BodyWithin
unfolding over_items
over_within around at kind found each =
    after BodyWithin (item_shape at (plain_of kind)) (λ shape. predicate_entered at around shape >>= λ inside. found inside >>= body_of)
    (λ shape. after BodyWithin (predicate_entered at around shape) (λ inside. found inside >>= body_of)
    (λ inside. answers Within BodyWithin (found inside) body_of (each inside) (λ body h. plain_within body h)))

predicate_within : (at : ℕ) (predicate : Predicate) (list : Operand) (body : Bool × Typed) → Within list → BodyWithin body → IfOk (predicate_of at predicate list body.0 body.1) Within
predicate_within at predicate list body h k = wanted_within at body.0 (typed.predicate predicate (unwrapped list) body.1) (predicate_kind predicate (plain_kind list.kind)) (plain_within list h, k)

-- ---- conditions

module _ (wanted : Shape) where
  mutual
    tree_within : (inner : Option Shape) (around : ℕ) (tree : Expression) → WrittenInLimits tree → IfOk (typed_of wanted inner around tree) Within
    tree_within inner around (trees.ResultAt at) few = tt
    tree_within inner around (trees.ItemAt at) few = item_within at inner
    tree_within inner around (trees.LiteralAt at literal) few = few
    tree_within inner around (trees.FieldAt at owner name) few = answers Within Within (typed_of wanted inner around owner) (field_of at name) (tree_within inner around owner few.0) (λ owner h. field_within at name owner few.1 h)
    tree_within inner around (trees.IndexAt at list position) few =
        answers Within Within (typed_of wanted inner around list) (λ first. typed_of wanted inner around position >>= index_of at first) (tree_within inner around list few.0)
        (λ first h. answers Within Within (typed_of wanted inner around position) (index_of at first) (tree_within inner around position few.1) (λ second k. index_within at first second h k))
    tree_within inner around (trees.UnaryAt at operator operand) few = answers Within Within (typed_of wanted inner around operand) (unary_of at operator) (tree_within inner around operand few) (unary_within at operator)
    tree_within inner around (trees.BinaryAt at operator left right) few =
        answers Within Within (typed_of wanted inner around left) (λ first. typed_of wanted inner around right >>= binary_of at operator (side_by (is_nil_literal left) (is_nil_literal right)) first) (tree_within inner around left few.0)
        (λ first h. answers Within Within (typed_of wanted inner around right) (binary_of at operator (side_by (is_nil_literal left) (is_nil_literal right)) first) (tree_within inner around right few.1)
        (λ second k. binary_within at operator (is_nil_literal left) (is_nil_literal right) first second h k))
    tree_within inner around (trees.ChoiceAt at condition then_branch else_branch) few =
        answers Within Within (typed_of wanted inner around condition) (λ a. typed_of wanted inner around then_branch >>= λ b. typed_of wanted inner around else_branch >>= choice_of at a b) (tree_within inner around condition few.0)
        (λ a h. answers Within Within (typed_of wanted inner around then_branch) (λ b. typed_of wanted inner around else_branch >>= choice_of at a b) (tree_within inner around then_branch few.1)
        (λ b k. answers Within Within (typed_of wanted inner around else_branch) (choice_of at a b) (tree_within inner around else_branch few.2) (λ c l. choice_within at a b c h k l)))
    tree_within inner around (trees.ListAt at items) few =
        answers (Found items) Within (items_typed wanted inner around items) (λ found. list_literal_of at found (no_scalar found)) (items_within inner around items few.0)
        (λ found h. list_within at found (no_scalar found) (subst (λ many. many ≤ most_literal_items) (sym h.1) few.1) h.0)
    tree_within inner around (trees.LenAt at list) few = answers Within Within (typed_of wanted inner around list) (len_of at) (tree_within inner around list few) (len_within at)
    tree_within inner around (trees.IsNilAt at operand) few = answers Within Within (typed_of wanted inner around operand) (λ operand. given (typed.unary unary.IsNil operand.tree) boolean_kind) (tree_within inner around operand few) (λ operand h. h)
    tree_within inner around (trees.DefaultAt at operand otherwise) few =
        answers Within Within (typed_of wanted inner around operand) (λ first. typed_of wanted inner around otherwise >>= default_of at first) (tree_within inner around operand few.0)
        (λ first h. answers Within Within (typed_of wanted inner around otherwise) (default_of at first) (tree_within inner around otherwise few.1) (λ second k. default_within at first second h k))
    tree_within inner around (trees.PredicateAt at predicate list body) few =
        answers Within Within (typed_of wanted inner around list) (λ list. over_items at around list.kind (λ shape. typed_of wanted (Some shape) (suc around) body) >>= λ body. predicate_of at predicate list body.0 body.1) (tree_within inner around list few.0)
        (λ list h. answers BodyWithin Within (over_items at around list.kind (λ shape. typed_of wanted (Some shape) (suc around) body)) (λ body. predicate_of at predicate list body.0 body.1)
        (over_within around at list.kind (λ shape. typed_of wanted (Some shape) (suc around) body) (λ shape. tree_within (Some shape) (suc around) body few.1))
        (λ body k. predicate_within at predicate list body h k))

    items_within : (inner : Option Shape) (around : ℕ) (items : Expressions) → AllWrittenInLimits items → IfOk (items_typed wanted inner around items) (Found items)
    items_within inner around trees.none few = (tt, refl)
    items_within inner around (trees.more first others) few =
        answers Within (Found (trees.more first others)) (typed_of wanted inner around first) (λ operand. items_typed wanted inner around others >>= λ items. Ok (item_of (offset_of first) operand ∷ items)) (tree_within inner around first few.0)
        (λ operand h. answers (Found others) (Found (trees.more first others)) (items_typed wanted inner around others) (λ items. Ok (item_of (offset_of first) operand ∷ items)) (items_within inner around others few.1)
        (λ items rest. ((plain_within operand h, rest.0), ap suc rest.1)))

  condition_within : (at : ℕ) (operand : Operand) (holds : Bool) → Within operand → IfOk (if holds then Ok (unwrapped operand) else Err (NotTruth at)) InLimits
  condition_within at operand true h = plain_within operand h
  condition_within at operand false h = tt

  checked_within : (tree : Expression) → WrittenInLimits tree → IfOk (checked wanted tree) InLimits
  checked_within tree few =
      answers Within InLimits (typed_of wanted None 0 tree) (condition_of (offset_of tree)) (tree_within None 0 tree few) (λ operand h. condition_within (offset_of tree) operand (is_boolean operand) h)

  pub checked_in_limits : (tree : Expression) (condition : Typed) → checked wanted tree ≡ Ok condition → WrittenInLimits tree → InLimits condition
  checked_in_limits tree condition is few = subst (λ answer. IfOk answer InLimits) is (checked_within tree few)
