-- A call on parts of a condition has a smaller measure: eight times the depth that is left, and a rank.
use Rattle.std.proofs.Common.{◌≡◌, ℕ, ◌+◌, ◌*◌, ◌<◌, max, List, Box, Global, ap, rules, arith}
use Rattle.ar_tree.specs.declared.typed.Typed.{Typed, Field, Unary, Binary, And, Or, Choice, Predicate, size-Typed, the_lemmas}
use Rattle.ar_value.specs.declared.operator.UnaryOperator.{UnaryOperator}
use Rattle.ar_value.specs.declared.operator.BinaryOperator.{BinaryOperator}
use Rattle.ar_value.specs.declared.operator.Predicate.{Predicate as PredicateOperator}

-- ---- parts

pub field_deeper : (owner : Box Typed Global) (name : List ℕ) → size-Typed owner.value < size-Typed (Field owner name)
field_deeper owner name = search (rules, the_lemmas)

pub unary_deeper : (operator : UnaryOperator) (operand : Box Typed Global) → size-Typed operand.value < size-Typed (Unary operator operand)
unary_deeper operator operand = search (rules, the_lemmas)

pub binary_deeper : (operator : BinaryOperator) (left right : Box Typed Global) → max (size-Typed left.value) (size-Typed right.value) < size-Typed (Binary operator left right)
binary_deeper operator left right = search (rules, the_lemmas)

pub and_deeper : (left right : Box Typed Global) → max (size-Typed left.value) (size-Typed right.value) < size-Typed (And left right)
and_deeper left right = search (rules, the_lemmas)

pub or_deeper : (left right : Box Typed Global) → max (size-Typed left.value) (size-Typed right.value) < size-Typed (Or left right)
or_deeper left right = search (rules, the_lemmas)

pub choice_deeper : (condition first other : Box Typed Global)
    → max (size-Typed condition.value) (max (size-Typed first.value) (size-Typed other.value)) < size-Typed (Choice condition first other)
choice_deeper condition first other = search (rules, the_lemmas)

pub predicate_deeper : (predicate : PredicateOperator) (list body : Box Typed Global) → max (size-Typed list.value) (size-Typed body.value) < size-Typed (Predicate predicate list body)
predicate_deeper predicate list body = search (rules, the_lemmas)

-- ---- calls

-- on the one part
pub part_below : (rank : ℕ) (part held whole made : Typed) (t : ℕ) → rank < 8 → part ≡ held → whole ≡ made → size-Typed held < size-Typed made
    → 8 * size-Typed whole ≡ t → 8 * size-Typed part + rank < t
part_below rank part held whole made t small is_part is deeper before =
    let same : size-Typed whole ≡ size-Typed made = ap size-Typed is in
    let same_part : size-Typed part ≡ size-Typed held = ap size-Typed is_part in
    omega arith

-- on one of two parts
pub first_below : (rank : ℕ) (part held other whole made : Typed) (t : ℕ) → rank < 8 → part ≡ held → whole ≡ made → max (size-Typed held) (size-Typed other) < size-Typed made
    → 8 * size-Typed whole ≡ t → 8 * size-Typed part + rank < t
first_below rank part held other whole made t small is_part is deeper before =
    let same : size-Typed whole ≡ size-Typed made = ap size-Typed is in
    let same_part : size-Typed part ≡ size-Typed held = ap size-Typed is_part in
    omega arith

pub second_below : (rank : ℕ) (part first held whole made : Typed) (t : ℕ) → rank < 8 → part ≡ held → whole ≡ made → max (size-Typed first) (size-Typed held) < size-Typed made
    → 8 * size-Typed whole ≡ t → 8 * size-Typed part + rank < t
second_below rank part first held whole made t small is_part is deeper before =
    let same : size-Typed whole ≡ size-Typed made = ap size-Typed is in
    let same_part : size-Typed part ≡ size-Typed held = ap size-Typed is_part in
    omega arith

-- on two parts
pub both_below : (rank : ℕ) (left right held other whole made : Typed) (t : ℕ) → rank < 8 → left ≡ held → right ≡ other → whole ≡ made
    → max (size-Typed held) (size-Typed other) < size-Typed made → 8 * size-Typed whole ≡ t → 8 * max (size-Typed left) (size-Typed right) + rank < t
both_below rank left right held other whole made t small is_left is_right is deeper before =
    let same : size-Typed whole ≡ size-Typed made = ap size-Typed is in
    let same_left : size-Typed left ≡ size-Typed held = ap size-Typed is_left in
    let same_right : size-Typed right ≡ size-Typed other = ap size-Typed is_right in
    omega arith

-- on one of three parts
pub among_three : (rank : ℕ) (part condition first other held whole made : Typed) (t : ℕ) → rank < 8 → part ≡ held → whole ≡ made
    → max (size-Typed condition) (max (size-Typed first) (size-Typed other)) < size-Typed made
    → size-Typed held < max (size-Typed condition) (max (size-Typed first) (size-Typed other)) + 1
    → 8 * size-Typed whole ≡ t → 8 * size-Typed part + rank < t
among_three rank part condition first other held whole made t small is_part is deeper inside before =
    let same : size-Typed whole ≡ size-Typed made = ap size-Typed is in
    let same_part : size-Typed part ≡ size-Typed held = ap size-Typed is_part in
    omega arith

-- with a lower rank
pub lower : (low high size t : ℕ) → low < high → 8 * size + high ≡ t → 8 * size + low < t
lower low high size t below before = omega arith
