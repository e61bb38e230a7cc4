-- Trees of at most n levels.
use Rattle.std.proofs.Common.{◌≡◌, ℕ, zero, suc, ◌+◌, ◌-◌, ◌<◌, ◌≤◌, max, true, false, nat_le, List, [], ◌∷◌, length, map, drop, refl, sym, ◌∙◌, ap, arith, drop-cons, add-one}
use Rattle.std.proofs.lemmas.Bool.Decides.{nat_tests}
use Rattle.std.specs.Prelude.{◌&&◌, slice_index_or}
use Rattle.std.proofs.Math.ListN.{drop_of_length-le}
use Rattle.ar_tree.specs.Expression.{Expression, expressions}
use Rattle.ar_tree.specs.Expression as trees
use Rattle.ar_syntax.specs.Condition.{depth, items_depth}
use Rattle.ar_tree.specs.Views.{expression_of}
use Rattle.ar_tree.specs.declared.tree.Tree.{Tree}

pub some_level : (tree : Expression) → 0 < depth tree
some_level (trees.ResultAt at) = omega arith
some_level (trees.ItemAt at) = omega arith
some_level (trees.LiteralAt at literal) = omega arith
some_level (trees.FieldAt at inner name) = omega arith
some_level (trees.IndexAt at list index) = omega arith
some_level (trees.UnaryAt at operator operand) = omega arith
some_level (trees.BinaryAt at operator left right) = omega arith
some_level (trees.ChoiceAt at condition then_branch else_branch) = omega arith
some_level (trees.ListAt at items) = omega arith
some_level (trees.LenAt at list) = omega arith
some_level (trees.IsNilAt at operand) = omega arith
some_level (trees.DefaultAt at operand otherwise) = omega arith
some_level (trees.PredicateAt at predicate list body) = omega arith

pub no_level : (tree : Expression) (levels : ℕ) → levels ≡ 0 → false ≡ nat_le (depth tree) levels
no_level tree levels none = let some : 0 < depth tree = some_level tree in grind (arith, nat_tests)

pub leaf_level : (levels : ℕ) → (levels ≡ 0 → ⊥) → true ≡ nat_le 1 levels
leaf_level zero h = absurd (h refl)
leaf_level (suc n) h = grind (arith, nat_tests)

pub one_level : (d levels : ℕ) → (levels ≡ 0 → ⊥) → nat_le d (levels - 1) ≡ nat_le (d + 1) levels
one_level d zero h = absurd (h refl)
one_level d (suc n) h = grind (arith, nat_tests)

both_below : (a b n : ℕ) → (nat_le a n && nat_le b n) ≡ nat_le (max a b) n
both_below a b n = grind (arith, nat_tests)

pub two_levels : (a b levels : ℕ) → (levels ≡ 0 → ⊥) → (nat_le a (levels - 1) && nat_le b (levels - 1)) ≡ nat_le (max a b + 1) levels
two_levels a b levels h = both_below a b (levels - 1) ∙ one_level (max a b) levels h

pub three_levels : (a b c levels : ℕ) → (levels ≡ 0 → ⊥) → (nat_le a (levels - 1) && (nat_le b (levels - 1) && nat_le c (levels - 1))) ≡ nat_le (max a (max b c) + 1) levels
three_levels a b c levels h = ap (λ rest. nat_le a (levels - 1) && rest) (both_below b c (levels - 1)) ∙ two_levels a (max b c) levels h

front : (trees rest : List Tree) (tree : Tree) (levels : ℕ) → trees ≡ tree ∷ rest
    → nat_le (items_depth (expressions (map expression_of trees))) levels ≡ (nat_le (depth (expression_of tree)) levels && nat_le (items_depth (expressions (map expression_of rest))) levels)
front trees rest tree levels is = rw is (sym (both_below (depth (expression_of tree)) (items_depth (expressions (map expression_of rest))) levels))

pub next_tree : (trees : List Tree) (i : ℕ) (tree : Tree) (levels : ℕ) → i < length trees → tree ≡ slice_index_or trees i tree
    → nat_le (items_depth (expressions (map expression_of (drop i trees)))) levels ≡ (nat_le (depth (expression_of tree)) levels && nat_le (items_depth (expressions (map expression_of (drop (i + 1) trees)))) levels)
next_tree trees i tree levels inside is =
    rw add-one (front (drop i trees) (drop (suc i) trees) tree levels (drop-cons trees i tree inside ∙ ap (λ t. t ∷ drop (suc i) trees) (sym is)))

pub no_tree_left : (trees : List Tree) (i : ℕ) (levels : ℕ) → length trees ≤ i → true ≡ nat_le (items_depth (expressions (map expression_of (drop i trees)))) levels
no_tree_left trees i levels past = let none : drop i trees ≡ [] = drop_of_length-le trees past in rw none (grind (arith, nat_tests))
