-- A call on parts of a tree has a smaller measure: eight times the depth that is left, and a rank.
use Rattle.std.proofs.Common.{◌≡◌, ℕ, ◌+◌, ◌*◌, ◌<◌, max, List, Box, Global, ap, rules, arith}
use Rattle.ar_tree.specs.declared.tree.Tree.{Tree, Field, Index, Unary, Binary, Choice, Len, IsNil, Default, Predicate, size-Tree, the_lemmas}
use Rattle.ar_tree.specs.declared.tree.Unary.{Unary as UnaryOperator}
use Rattle.ar_tree.specs.declared.tree.Binary.{Binary as BinaryOperator}
use Rattle.ar_value.specs.declared.operator.Predicate.{Predicate as PredicateOperator}

-- ---- parts of a tree

pub field_deeper : (at : ℕ) (owner : Box Tree Global) (name : List ℕ) → size-Tree owner.value < size-Tree (Field at owner name)
field_deeper at owner name = search (rules, the_lemmas)

pub index_deeper : (at : ℕ) (list index : Box Tree Global) → max (size-Tree list.value) (size-Tree index.value) < size-Tree (Index at list index)
index_deeper at list index = search (rules, the_lemmas)

pub unary_deeper : (at : ℕ) (operator : UnaryOperator) (operand : Box Tree Global) → size-Tree operand.value < size-Tree (Unary at operator operand)
unary_deeper at operator operand = search (rules, the_lemmas)

pub binary_deeper : (at : ℕ) (operator : BinaryOperator) (left right : Box Tree Global) → max (size-Tree left.value) (size-Tree right.value) < size-Tree (Binary at operator left right)
binary_deeper at operator left right = search (rules, the_lemmas)

pub choice_deeper : (at : ℕ) (condition first other : Box Tree Global)
    → max (size-Tree condition.value) (max (size-Tree first.value) (size-Tree other.value)) < size-Tree (Choice at condition first other)
choice_deeper at condition first other = search (rules, the_lemmas)

pub len_deeper : (at : ℕ) (list : Box Tree Global) → size-Tree list.value < size-Tree (Len at list)
len_deeper at list = search (rules, the_lemmas)

pub is_nil_deeper : (at : ℕ) (operand : Box Tree Global) → size-Tree operand.value < size-Tree (IsNil at operand)
is_nil_deeper at operand = search (rules, the_lemmas)

pub default_deeper : (at : ℕ) (operand otherwise : Box Tree Global) → max (size-Tree operand.value) (size-Tree otherwise.value) < size-Tree (Default at operand otherwise)
default_deeper at operand otherwise = search (rules, the_lemmas)

pub predicate_deeper : (at : ℕ) (predicate : PredicateOperator) (list body : Box Tree Global) → max (size-Tree list.value) (size-Tree body.value) < size-Tree (Predicate at predicate list body)
predicate_deeper at predicate list body = search (rules, the_lemmas)

-- ---- calls

pub part_below : (rank part : ℕ) (whole made : Tree) (t : ℕ) → rank < 8 → whole ≡ made → part < size-Tree made → 8 * size-Tree whole ≡ t → 8 * part + rank < t
part_below rank part whole made t small is deeper before =
    let same : size-Tree whole ≡ size-Tree made = ap size-Tree is in
    omega arith

pub lower : (low high size t : ℕ) → low < high → 8 * size + high ≡ t → 8 * size + low < t
lower low high size t below before = omega arith

pub first_of_two : (low high first other t : ℕ) → low < high → 8 * max first other + high ≡ t → 8 * first + low < t
first_of_two low high first other t below before = omega arith

pub other_of_two : (low high first other t : ℕ) → low < high → 8 * max first other + high ≡ t → 8 * other + low < t
other_of_two low high first other t below before = omega arith

pub second_of_three : (low high first second third t : ℕ) → low < high → 8 * max first (max second third) + high ≡ t → 8 * second + low < t
second_of_three low high first second third t below before = omega arith

pub third_of_three : (low high first second third t : ℕ) → low < high → 8 * max first (max second third) + high ≡ t → 8 * third + low < t
third_of_three low high first second third t below before = omega arith
