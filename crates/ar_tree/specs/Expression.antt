-- What a tree says, without where it is in memory.
use Rattle.std.specs.Prelude.{ℕ, suc, List, [], ◌∷◌}
use Rattle.ar_value.specs.Terms.{Offset, Text}
use Rattle.ar_tree.specs.declared.tree.Binary.{Binary}
use Rattle.ar_tree.specs.declared.tree.Literal.{Literal}
use Rattle.ar_value.specs.declared.operator.Predicate.{Predicate}
use Rattle.ar_tree.specs.declared.tree.Unary.{Unary}

mutual
  -- a node with its offset in bytes and its children
  pub data Expression : Type 0 where
    ResultAt : (at : Offset) → Expression
    ItemAt : (at : Offset) → Expression
    LiteralAt : (at : Offset) (literal : Literal) → Expression
    FieldAt : (at : Offset) (owner : Expression) (name : Text) → Expression
    IndexAt : (at : Offset) (list index : Expression) → Expression
    UnaryAt : (at : Offset) (operator : Unary) (operand : Expression) → Expression
    BinaryAt : (at : Offset) (operator : Binary) (left right : Expression) → Expression
    ChoiceAt : (at : Offset) (condition then_branch else_branch : Expression) → Expression
    ListAt : (at : Offset) (items : Expressions) → Expression
    LenAt : (at : Offset) (list : Expression) → Expression
    IsNilAt : (at : Offset) (operand : Expression) → Expression
    DefaultAt : (at : Offset) (operand otherwise : Expression) → Expression
    PredicateAt : (at : Offset) (predicate : Predicate) (list body : Expression) → Expression

  pub data Expressions : Type 0 where
    none : Expressions
    more : (first : Expression) (others : Expressions) → Expressions

abbrev pub expressions : List Expression → Expressions
expressions [] = none
expressions (first ∷ others) = more first (expressions others)

-- how many there are
abbrev pub expression_count : Expressions → ℕ
expression_count none = 0
expression_count (more first others) = suc (expression_count others)

-- the offset of a tree: that of its operator, else of its own token
abbrev pub offset_of : Expression → Offset
offset_of (ResultAt at) = at
offset_of (ItemAt at) = at
offset_of (LiteralAt at literal) = at
offset_of (FieldAt at owner name) = at
offset_of (IndexAt at list index) = at
offset_of (UnaryAt at operator operand) = at
offset_of (BinaryAt at operator left right) = at
offset_of (ChoiceAt at condition then_branch else_branch) = at
offset_of (ListAt at items) = at
offset_of (LenAt at list) = at
offset_of (IsNilAt at operand) = at
offset_of (DefaultAt at operand otherwise) = at
offset_of (PredicateAt at predicate list body) = at
