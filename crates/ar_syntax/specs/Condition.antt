-- Which texts are conditions, and the tree that each says; limits of the grammar, all of them and each alone set aside.
use Rattle.std.specs.Prelude.{◌≡◌, ℕ, ◌+◌, true, false, max, nat_le, List, Ok, pos, refl}
use Rattle.ar_value.specs.Terms.{Text}
use Rattle.ar_tree.specs.Expression.{Expression, Expressions}
use Rattle.ar_tree.specs.Expression as trees
use Rattle.ar_syntax.specs.Grammar.{DerivesBy, Rules}
use Rattle.ar_syntax.specs.Tokens.{tokens_of}
use Rattle.ar_syntax.specs.declared.token.Token.{Token}
use Rattle.ar_tree.specs.Expression.{BinaryAt, LiteralAt, ResultAt, UnaryAt}
use Rattle.ar_tree.specs.declared.tree.Binary.TheVariants.{Add}
use Rattle.ar_tree.specs.declared.tree.Literal.TheVariants as literals
use Rattle.ar_tree.specs.declared.tree.Unary.TheVariants.{Minus}

-- all limits of the grammar hold
abbrev pub strict : Rules
strict = record { any_depth = false; any_items = false; any_count = false }

-- all of the tokens are a condition, which the tree says, however deep the tree is
abbrev pub Derives : List Token → Expression → Type 0
Derives tokens tree = DerivesBy strict tokens tree

-- ---- depth

abbrev mutual
  pub depth : Expression → ℕ
  depth (trees.ResultAt at) = 1
  depth (trees.ItemAt at) = 1
  depth (trees.LiteralAt at literal) = 1
  depth (trees.FieldAt at owner name) = depth owner + 1
  depth (trees.IndexAt at list index) = max (depth list) (depth index) + 1
  depth (trees.UnaryAt at operator operand) = depth operand + 1
  depth (trees.BinaryAt at operator left right) = max (depth left) (depth right) + 1
  depth (trees.ChoiceAt at condition then_branch else_branch) =
      max (depth condition) (max (depth then_branch) (depth else_branch)) + 1
  depth (trees.ListAt at items) = items_depth items + 1
  depth (trees.LenAt at list) = depth list + 1
  depth (trees.IsNilAt at operand) = depth operand + 1
  depth (trees.DefaultAt at operand otherwise) = max (depth operand) (depth otherwise) + 1
  depth (trees.PredicateAt at predicate list body) = max (depth list) (depth body) + 1

  pub items_depth : Expressions → ℕ
  items_depth trees.none = 0
  items_depth (trees.more first others) = max (depth first) (items_depth others)

abbrev pub most_depth : ℕ
most_depth = 64

-- ---- texts

-- the text's tokens are a condition, which the tree says
pub record SaysTree (text : Text) (tree : Expression) : Type 0 where
  pub tokens : List Token
  pub cut : tokens_of text ≡ Ok tokens
  pub derived : DerivesBy strict tokens tree
  pub shallow : nat_le (depth tree) most_depth ≡ true

-- all limits hold but one
abbrev pub at_any_depth : Rules
at_any_depth = record { any_depth = true; any_items = false; any_count = false }

abbrev pub of_any_items : Rules
of_any_items = record { any_depth = false; any_items = true; any_count = false }

abbrev pub of_any_count : Rules
of_any_count = record { any_depth = false; any_items = false; any_count = true }

-- ---- worked rows

depth_of_a_leaf : depth (ResultAt 0) ≡ 1
depth_of_a_leaf = refl

depth_of_a_sum : depth (BinaryAt 7 Add (ResultAt 0) (UnaryAt 9 Minus (LiteralAt 10 (literals.Whole (pos 1))))) ≡ 3
depth_of_a_sum = refl
