-- A tree that says a part is of the part's form, and its children say the part's.
use Rattle.std.proofs.Common.{◌≡◌, ℕ, refl, ap, Some}
use Rattle.ar_value.specs.Terms.{Text}
use Rattle.ar_value.specs.declared.operator.BinaryOperator.{BinaryOperator}
use Rattle.ar_value.specs.declared.operator.BinaryOperator.TheVariants as binary
use Rattle.ar_value.specs.declared.operator.Numbers.{Numbers}
use Rattle.ar_value.specs.declared.operator.Predicate.{Predicate}
use Rattle.ar_value.specs.declared.operator.Scalar.{Scalar}
use Rattle.ar_value.specs.declared.operator.UnaryOperator.TheVariants as unary
use Rattle.ar_tree.specs.Expression.{Expression, Expressions, ResultAt, ItemAt, LiteralAt, FieldAt, IndexAt, UnaryAt, BinaryAt, ChoiceAt, ListAt, LenAt, IsNilAt, DefaultAt, PredicateAt}
use Rattle.ar_tree.specs.Expression as trees
use Rattle.ar_tree.specs.Typed.{Typed, Typeds}
use Rattle.ar_tree.specs.Typed as typed
use Rattle.ar_tree.specs.declared.tree.Binary.{Binary}
use Rattle.ar_tree.specs.declared.tree.Binary.TheVariants as binaries
use Rattle.ar_tree.specs.declared.tree.Literal.{Literal}
use Rattle.ar_tree.specs.declared.tree.Unary.TheVariants as unaries
use Rattle.ar_parsed_back.specs.InPlace.{MayBeNil, NeedsInPlace}
use Rattle.ar_parsed_back.specs.Written.{Writes, WritesEach, infix_of}
use Rattle.ar_parsed_back.specs.Written as writes

pub result_form : {tree : Expression} → Writes tree typed.result → (at : ℕ) × (tree ≡ ResultAt at)
result_form (writes.result {at = at}) = (at, refl)

pub item_form : {tree : Expression} → Writes tree typed.item → (at : ℕ) × (tree ≡ ItemAt at)
item_form (writes.item {at = at}) = (at, refl)

pub literal_form : {tree : Expression} {it : Literal} → Writes tree (typed.literal it) → (at : ℕ) × (tree ≡ LiteralAt at it)
literal_form (writes.literal {at = at}) = (at, refl)

pub field_form : {tree : Expression} {whole : Typed} {name : Text} → Writes tree (typed.field whole name) → (at : ℕ) × (owner : Expression) × (tree ≡ FieldAt at owner name) × Writes owner whole
field_form (writes.field {at = at} {owner = owner} says) = (at, owner, refl, says)

pub len_form : {tree : Expression} {part : Typed} → Writes tree (typed.unary unary.Len part) → (at : ℕ) × (operand : Expression) × (tree ≡ LenAt at operand) × Writes operand part
len_form (writes.len {at = at} {tree = operand} says) = (at, operand, refl, says)

pub is_nil_form : {tree : Expression} {part : Typed} → Writes tree (typed.unary unary.IsNil part) → (at : ℕ) × (operand : Expression) × (tree ≡ IsNilAt at operand) × Writes operand part
is_nil_form (writes.is_nil {at = at} {tree = operand} says) = (at, operand, refl, says)

pub not_form : {tree : Expression} {part : Typed} → Writes tree (typed.unary unary.Not part) → (at : ℕ) × (operand : Expression) × (tree ≡ UnaryAt at unaries.Not operand) × Writes operand part
not_form (writes.negation {at = at} {tree = operand} says) = (at, operand, refl, says)

pub minus_form : {tree : Expression} {of : Numbers} {part : Typed} → Writes tree (typed.unary (unary.Negate of) part) → (at : ℕ) × (operand : Expression) × (tree ≡ UnaryAt at unaries.Minus operand) × Writes operand part
minus_form (writes.minus {at = at} {tree = operand} says) = (at, operand, refl, says)

-- two children
pub record Sides (tree : Expression) (left right : Typed) (form : ℕ → Expression → Expression → Expression) : Type 0 where
  pub at : ℕ
  pub first : Expression
  pub second : Expression
  pub is : tree ≡ form at first second
  pub first_says : Writes first left
  pub second_says : Writes second right

pub index_form : {tree : Expression} {left right : Typed} → Writes tree (typed.binary binary.Index left right) → Sides tree left right (λ at first second. IndexAt at first second)
index_form (writes.index {at = at} {list = first} {place = second} says also) = record { at = at; first = first; second = second; is = refl; first_says = says; second_says = also }
index_form (writes.sides is says also) = absurd cc

pub default_form : {tree : Expression} {left right : Typed} → Writes tree (typed.binary binary.Default left right) → Sides tree left right (λ at first second. DefaultAt at first second)
default_form (writes.default {at = at} {first = first} {second = second} says also) = record { at = at; first = first; second = second; is = refl; first_says = says; second_says = also }
default_form (writes.sides is says also) = absurd cc

pub infix_form : {tree : Expression} {operator : BinaryOperator} {left right : Typed} → (written : Binary) → infix_of operator ≡ Some written → Writes tree (typed.binary operator left right) → Sides tree left right (λ at first second. BinaryAt at written first second)
infix_form written shown (writes.index says also) = absurd cc
infix_form written shown (writes.default says also) = absurd cc
infix_form written shown (writes.sides {at = at} {written = other} {first = first} {second = second} is says also) =
    let same : other ≡ written = cc in
    record { at = at; first = first; second = second; is = ap (λ (it : Binary). BinaryAt at it first second) same; first_says = says; second_says = also }

pub both_form : {tree : Expression} {left right : Typed} → Writes tree (typed.both left right) → Sides tree left right (λ at first second. BinaryAt at binaries.And first second)
both_form (writes.both {at = at} {first = first} {second = second} says also) = record { at = at; first = first; second = second; is = refl; first_says = says; second_says = also }

pub either_form : {tree : Expression} {left right : Typed} → Writes tree (typed.either left right) → Sides tree left right (λ at first second. BinaryAt at binaries.Or first second)
either_form (writes.either {at = at} {first = first} {second = second} says also) = record { at = at; first = first; second = second; is = refl; first_says = says; second_says = also }

pub predicate_form : {tree : Expression} {over : Predicate} {left right : Typed} → Writes tree (typed.predicate over left right) → Sides tree left right (λ at first second. PredicateAt at over first second)
predicate_form (writes.predicate {at = at} {first = first} {second = second} says also) = record { at = at; first = first; second = second; is = refl; first_says = says; second_says = also }

pub record Branches (tree : Expression) (condition then_branch else_branch : Typed) : Type 0 where
  pub at : ℕ
  pub first : Expression
  pub second : Expression
  pub third : Expression
  pub is : tree ≡ ChoiceAt at first second third
  pub first_says : Writes first condition
  pub second_says : Writes second then_branch
  pub third_says : Writes third else_branch

pub choice_form : {tree : Expression} {condition then_branch else_branch : Typed} → Writes tree (typed.choice condition then_branch else_branch) → Branches tree condition then_branch else_branch
choice_form (writes.choice {at = at} {first = first} {second = second} {third = third} one two three) = record { at = at; first = first; second = second; third = third; is = refl; first_says = one; second_says = two; third_says = three }

pub list_form : {tree : Expression} {scalar : Scalar} {parts : Typeds} → Writes tree (typed.listed scalar parts) → (at : ℕ) × (items : Expressions) × (tree ≡ ListAt at items) × WritesEach items parts
list_form (writes.list {at = at} {trees = items} says) = (at, items, refl, says)

pub none_form : {items : Expressions} → WritesEach items typed.none → items ≡ trees.none
none_form writes.none = refl

pub more_form : {items : Expressions} {part : Typed} {others : Typeds} → WritesEach items (typed.more part others) → (first : Expression) × (later : Expressions) × (items ≡ trees.more first later) × Writes first part × WritesEach later others
more_form (writes.more {tree = first} {later = later} says also) = (first, later, refl, says, also)

-- ---- what is unwrapped or converted

-- the one is the other, unwrapped or converted or as it is
pub data Covers : Typed → Typed → Type 0 where
  itself : {part : Typed} → Covers part part
  unwraps : {part inner : Typed} → Covers part inner → Covers (typed.unary unary.Need part) inner
  converts : {part inner : Typed} → Covers part inner → Covers (typed.unary unary.ToDecimal part) inner

pub covers_both : {part mid inner : Typed} → Covers part mid → Covers mid inner → Covers part inner
covers_both itself also = also
covers_both (unwraps covers) also = unwraps (covers_both covers also)
covers_both (converts covers) also = converts (covers_both covers also)

needed_form : {tree : Expression} {part : Typed} → Writes tree (typed.unary unary.Need part) → Writes tree part
needed_form (writes.needed says) = says

converted_form : {tree : Expression} {part : Typed} → Writes tree (typed.unary unary.ToDecimal part) → Writes tree part
converted_form (writes.as_decimal says) = says

-- what says it says what it covers
pub covered_says : {tree : Expression} {part inner : Typed} → Covers part inner → Writes tree part → Writes tree inner
covered_says itself says = says
covered_says (unwraps covers) says = covered_says covers (needed_form says)
covered_says (converts covers) says = covered_says covers (converted_form says)

pub covered_place : {part inner : Typed} → Covers part inner → NeedsInPlace part → NeedsInPlace inner
covered_place itself place = place
covered_place (unwraps covers) place = covered_place covers place.1
covered_place (converts covers) place = covered_place covers place.1

pub covered_nil : {part inner : Typed} → Covers part inner → MayBeNil part → MayBeNil inner
covered_nil itself may = may
covered_nil (unwraps covers) may = absurd cc
covered_nil (converts covers) may = covered_nil covers may
