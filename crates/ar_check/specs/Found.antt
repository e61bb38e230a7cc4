-- What the operands at an offset of a condition are: to be reported where one isn't of a kind that is taken there.
use Rattle.std.specs.Prelude.{ℕ, suc, Bool, false, ◌||◌, ◌==◌, if◌then◌else◌, nat_lt, List, [], ◌∷◌, Option, Some, None, option_and_then, option_map, unwrap_or, Ok, Err}
use Rattle.std.specs.Option.{option_or}
use Rattle.ar_value.specs.Terms.{Offset, Text}
use Rattle.ar_value.specs.Kind.{Kind, nil, shaped}
use Rattle.ar_value.specs.Shape.{Shape, FieldShapes}
use Rattle.ar_value.specs.Shape as shapes
use Rattle.ar_value.specs.Limits.{most_loops}
use Rattle.ar_tree.specs.Expression.{Expression, Expressions}
use Rattle.ar_tree.specs.Expression as trees
use Rattle.ar_tree.specs.declared.tree.Binary.{Binary}
use Rattle.ar_tree.specs.declared.tree.Binary.TheVariants as binaries
use Rattle.ar_check.specs.Check.{Answer, typed_of}
use Rattle.ar_check.specs.Operand.{plain_of}
use Rattle.ar_check.specs.declared.found.OperandKind.{OperandKind}
use Rattle.ar_check.specs.declared.found.OperandKind.TheVariants as found
use Rattle.ar_check.specs.declared.found.Operands.{Operands}
use Rattle.ar_check.specs.declared.found.Operands.TheVariants.{Before, Record, One, Two}

-- ---- kinds

-- what a shape is, whether or not it may be nil as well
abbrev pub found_shape : Shape → OperandKind
found_shape shapes.bool = found.Bool
found_shape shapes.whole = found.Whole
found_shape shapes.decimal = found.Decimal
found_shape shapes.text = found.Text
found_shape (shapes.list item max) = found.List
found_shape (shapes.object inner) = found.Object
found_shape (shapes.optional shape) = found_shape shape

abbrev pub found_kind : Kind → OperandKind
found_kind nil = found.Nil
found_kind (shaped shape) = found_shape shape

-- the shape of a list's items
abbrev pub shape_of_items : Option Shape → Option Shape
shape_of_items (Some (shapes.list item max)) = Some item
shape_of_items shape = None

abbrev pub items_shape : Kind → Option Shape
items_shape kind = shape_of_items (plain_of kind)

-- the fields of a record, and their names
abbrev pub fields_in : Option Shape → Option FieldShapes
fields_in (Some (shapes.object fields)) = Some fields
fields_in shape = None

abbrev pub fields_of : Kind → Option FieldShapes
fields_of kind = fields_in (plain_of kind)

abbrev pub record_names : FieldShapes → List Text
record_names shapes.no_fields = []
record_names (shapes.field name shape others) = name ∷ record_names others

-- ---- the operands of one tree

abbrev pub kind_in : Answer → Option Kind
kind_in (Ok operand) = Some operand.kind
kind_in (Err error) = None

-- the kind of a tree, if it has one
abbrev pub kind_of : Shape → Option Shape → ℕ → Expression → Option Kind
kind_of result item around tree = kind_in (typed_of result item around tree)

-- the shape of a list's items, where one more predicate may speak of them
abbrev pub entered_item : ℕ → Kind → Option Shape
entered_item around list = if nat_lt around most_loops then items_shape list else None

abbrev pub entered_list : ℕ → Option Kind → Option Shape
entered_list around list = option_and_then (entered_item around) list

-- what is before a field's name: of a record the names of its fields
abbrev pub owner_found : Kind → Operands
owner_found kind =
    unwrap_or (option_map (λ fields. Record (record_names fields)) (fields_of kind)) (Before (found_kind kind))

abbrev pub before : Option Kind → Option Operands
before kind = option_map owner_found kind

abbrev pub one : Option Kind → Option Operands
one kind = option_map (λ kind. One (found_kind kind)) kind

-- `in` and `not in` take a list for its items
abbrev pub member_found : Kind → OperandKind
member_found kind = unwrap_or (option_map found_shape (items_shape kind)) (found_kind kind)

abbrev pub right_found : Binary → Kind → OperandKind
right_found binaries.In kind = member_found kind
right_found binaries.NotIn kind = member_found kind
right_found operator kind = found_kind kind

abbrev pub two : Binary → Option Kind → Option Kind → Option Operands
two operator (Some left) (Some right) = Some (Two (found_kind left) (right_found operator right))
two operator left right = None

-- ---- the tree at an offset

abbrev mutual
  -- whether a tree, or one inside it, is at an offset
  pub has_offset : Offset → Expression → Bool
  has_offset offset (trees.ResultAt at) = at == offset
  has_offset offset (trees.ItemAt at) = at == offset
  has_offset offset (trees.LiteralAt at literal) = at == offset
  has_offset offset (trees.FieldAt at owner name) = at == offset || has_offset offset owner
  has_offset offset (trees.IndexAt at list index) = at == offset || (has_offset offset list || has_offset offset index)
  has_offset offset (trees.UnaryAt at operator operand) = at == offset || has_offset offset operand
  has_offset offset (trees.BinaryAt at operator left right) =
      at == offset || (has_offset offset left || has_offset offset right)
  has_offset offset (trees.ChoiceAt at condition then_branch else_branch) =
      at == offset || (has_offset offset condition || (has_offset offset then_branch || has_offset offset else_branch))
  has_offset offset (trees.ListAt at items) = at == offset || any_has_offset offset items
  has_offset offset (trees.LenAt at list) = at == offset || has_offset offset list
  has_offset offset (trees.IsNilAt at operand) = at == offset || has_offset offset operand
  has_offset offset (trees.DefaultAt at operand otherwise) =
      at == offset || (has_offset offset operand || has_offset offset otherwise)
  has_offset offset (trees.PredicateAt at predicate list body) =
      at == offset || (has_offset offset list || has_offset offset body)

  pub any_has_offset : Offset → Expressions → Bool
  any_has_offset offset trees.none = false
  any_has_offset offset (trees.more first others) = has_offset offset first || any_has_offset offset others

abbrev mutual
  -- At the first tree at an offset that takes operands, where `result` has a shape, and so does the innermost item,
  -- inside n predicates: what is before a field's name, both operands of an operator between two, else the one
  -- that is expected of another kind. Children are searched from left to right; the body of a predicate if the offset
  -- is there, else its list.
  pub found_in : Offset → Shape → Option Shape → ℕ → Expression → Option Operands
  found_in offset result item around (trees.ResultAt at) = None
  found_in offset result item around (trees.ItemAt at) = None
  found_in offset result item around (trees.LiteralAt at literal) = None
  found_in offset result item around (trees.FieldAt at owner name) =
      if at == offset then before (kind_of result item around owner)
      else found_in offset result item around owner
  found_in offset result item around (trees.IndexAt at list index) =
      if at == offset then one (kind_of result item around index)
      else option_or (found_in offset result item around list) (found_in offset result item around index)
  found_in offset result item around (trees.UnaryAt at operator operand) =
      if at == offset then one (kind_of result item around operand)
      else found_in offset result item around operand
  found_in offset result item around (trees.BinaryAt at operator left right) =
      if at == offset then two operator (kind_of result item around left) (kind_of result item around right)
      else option_or (found_in offset result item around left) (found_in offset result item around right)
  found_in offset result item around (trees.ChoiceAt at condition then_branch else_branch) =
      if at == offset then one (kind_of result item around condition)
      else option_or (found_in offset result item around condition)
      (option_or (found_in offset result item around then_branch) (found_in offset result item around else_branch))
  found_in offset result item around (trees.ListAt at items) = found_among offset result item around items
  found_in offset result item around (trees.LenAt at list) = found_in offset result item around list
  found_in offset result item around (trees.IsNilAt at operand) = found_in offset result item around operand
  found_in offset result item around (trees.DefaultAt at operand otherwise) =
      option_or (found_in offset result item around operand) (found_in offset result item around otherwise)
  found_in offset result item around (trees.PredicateAt at predicate list body) =
      if at == offset then option_and_then (λ shape. one (kind_of result (Some shape) (suc around) body))
      (entered_list around (kind_of result item around list))
      else (if has_offset offset body
      then option_and_then (λ shape. found_in offset result (Some shape) (suc around) body)
      (entered_list around (kind_of result item around list))
      else found_in offset result item around list)

  pub found_among : Offset → Shape → Option Shape → ℕ → Expressions → Option Operands
  found_among offset result item around trees.none = None
  found_among offset result item around (trees.more first others) =
      option_or (found_in offset result item around first) (found_among offset result item around others)

-- what the operands at an offset of a condition are, where these have kinds
abbrev pub operands_at : Shape → Expression → Offset → Option Operands
operands_at result tree offset = found_in offset result None 0 tree
