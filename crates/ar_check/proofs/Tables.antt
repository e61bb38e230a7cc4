-- Answers and plain shapes, as the table of kinds says of them.
use Rattle.std.proofs.Common.{◌≡◌, ℕ, Bool, true, false, List, Option, Some, None, Result, Ok, Err, refl, ap, subst}
use Rattle.std.specs.Prelude.{option_and_then}
use Rattle.ar_value.specs.Answer.{◌>>=◌}
use Rattle.ar_value.specs.Kind.{Kind, nil, shaped, plain, scalar_shape}
use Rattle.ar_value.specs.Shape.{Shape, FieldShapes}
use Rattle.ar_value.specs.Shape as shapes
use Rattle.ar_check.specs.Check.{Answer, field_shape, found_field, given, is_whole_number, item_shape, number_kind, where_wanted}
use Rattle.ar_value.specs.Shape.{shape_named}
use Rattle.ar_check.specs.Operand.{Operand, operand, is_bool, is_text_scalar, numbers_in, plain_of, scalar_of}
use Rattle.ar_tree.specs.Typed.{Typed}
use Rattle.ar_check.specs.declared.error.TypeError.{TypeError}
use Rattle.ar_value.specs.declared.operator.Numbers.{Numbers}
use Rattle.ar_value.specs.declared.operator.Numbers.TheVariants.{Wholes, Decimals}
use Rattle.ar_value.specs.declared.operator.Scalar.{Scalar}
use Rattle.ar_value.specs.declared.operator.Scalar.TheVariants as scalars

-- ---- answers

-- an answer is a tree of a kind
abbrev pub IsTyped : Answer → Kind → Type 0
IsTyped answer kind = (tree : Typed) × (answer ≡ Ok (operand tree kind))

-- what an answer led to follows from what was returned
pub from_bind : {A B E : Type 0} (a : Result A E) (f : A → Result B E) (y : B) → (a >>= f) ≡ Ok y → (x : A) × (a ≡ Ok x) × (f x ≡ Ok y)
from_bind (Ok x) f y h = (x, refl, h)
from_bind (Err e) f y h = absurd (cc)

-- what was returned leads on
pub into_bind : {A B E : Type 0} (a : Result A E) (f : A → Result B E) (x : A) (y : B) → a ≡ Ok x → f x ≡ Ok y → (a >>= f) ≡ Ok y
into_bind a f x y h k = rw h k

-- what was returned leads on to a tree of a kind
pub bind_typed : {A : Type 0} (a : Result A TypeError) (f : A → Answer) (x : A) (kind : Kind) → a ≡ Ok x → IsTyped (f x) kind → IsTyped (a >>= f) kind
bind_typed a f x kind h k = rw h k

-- a tree of a kind leads on to one
pub then_typed : (a : Answer) (f : Operand → Answer) (of kind : Kind) → IsTyped a of → ((tree : Typed) → IsTyped (f (operand tree of)) kind) → IsTyped (a >>= f) kind
then_typed a f of kind h step = rw h.1 (step h.0)

-- a tree of a kind has kinds that are the same
pub same_kind : (a : Answer) (of kind : Kind) → of ≡ kind → IsTyped a of → IsTyped a kind
same_kind a of kind same h = subst (λ kind. IsTyped a kind) same h

-- what is given has the kind that is given
pub given_kind : (tree : Typed) (kind : Kind) (found : Operand) → given tree kind ≡ Ok found → kind ≡ found.kind
given_kind tree kind found h = cc

-- what is given where operands are what is required
pub wanted_kind : (at : ℕ) (is_wanted : Bool) (tree : Typed) (kind : Kind) (found : Operand) → where_wanted at is_wanted tree kind ≡ Ok found → (is_wanted ≡ true) × (kind ≡ found.kind)
wanted_kind at true tree kind found h = (refl, given_kind tree kind found h)
wanted_kind at false tree kind found h = absurd (cc)

-- where operands are what is required, it is given
pub wanted_typed : (at : ℕ) (is_wanted : Bool) (tree : Typed) (kind : Kind) → is_wanted ≡ true → IsTyped (where_wanted at is_wanted tree kind) kind
wanted_typed at is_wanted tree kind h = rw h (tree, refl)

-- ---- scalars

-- a shape that is a scalar is that scalar's
pub shape_of_scalar : (shape : Shape) (scalar : Scalar) → scalar_of shape ≡ Some scalar → shape ≡ scalar_shape scalar
shape_of_scalar shapes.bool scalars.Bool h = refl
shape_of_scalar shapes.whole scalars.Whole h = refl
shape_of_scalar shapes.decimal scalars.Decimal h = refl
shape_of_scalar shapes.text scalars.Text h = refl
shape_of_scalar shape scalar h = absurd (cc)

-- a scalar's shape is that scalar
scalar_of_shape : (scalar : Scalar) → scalar_of (scalar_shape scalar) ≡ Some scalar
scalar_of_shape scalars.Bool = refl
scalar_of_shape scalars.Whole = refl
scalar_of_shape scalars.Decimal = refl
scalar_of_shape scalars.Text = refl

-- likewise by another name
pub is_scalar : (shape : Shape) (scalar : Scalar) → shape ≡ scalar_shape scalar → scalar_of shape ≡ Some scalar
is_scalar shape scalar h = rw h (scalar_of_shape scalar)

-- the kind of what is a scalar once it is plain
pub scalar_within : (kind : Kind) (scalar : Scalar) → option_and_then scalar_of (plain_of kind) ≡ Some scalar → (of : Shape) × (kind ≡ shaped of) × (plain of ≡ scalar_shape scalar)
scalar_within nil scalar h = absurd (cc)
scalar_within (shaped of) scalar h = (of, refl, shape_of_scalar (plain of) scalar h)

-- booleans
bool_of_scalar : (scalar : Option Scalar) → is_bool scalar ≡ true → scalar ≡ Some scalars.Bool
bool_of_scalar (Some scalars.Bool) h = refl
bool_of_scalar scalar h = absurd (cc)

-- the kind of a boolean
pub boolean_within : (kind : Kind) → is_bool (option_and_then scalar_of (plain_of kind)) ≡ true → (of : Shape) × (kind ≡ shaped of) × (plain of ≡ shapes.bool)
boolean_within kind h = scalar_within kind scalars.Bool (bool_of_scalar (option_and_then scalar_of (plain_of kind)) h)

-- what is plainly a boolean is one
pub boolean_is : (shape : Shape) → shape ≡ shapes.bool → is_bool (scalar_of shape) ≡ true
boolean_is shape h = rw h refl

-- texts
text_of_scalar : (scalar : Option Scalar) → is_text_scalar scalar ≡ true → scalar ≡ Some scalars.Text
text_of_scalar (Some scalars.Text) h = refl
text_of_scalar scalar h = absurd (cc)

-- the kind of a text
pub text_within : (kind : Kind) → is_text_scalar (option_and_then scalar_of (plain_of kind)) ≡ true → (of : Shape) × (kind ≡ shaped of) × (plain of ≡ shapes.text)
text_within kind h = scalar_within kind scalars.Text (text_of_scalar (option_and_then scalar_of (plain_of kind)) h)

-- what is plainly a text is one
pub text_is : (shape : Shape) → shape ≡ shapes.text → is_text_scalar (scalar_of shape) ≡ true
text_is shape h = rw h refl

-- wholes
whole_of_scalar : (scalar : Option Scalar) → is_whole_number scalar ≡ true → scalar ≡ Some scalars.Whole
whole_of_scalar (Some scalars.Whole) h = refl
whole_of_scalar scalar h = absurd (cc)

-- the kind of a whole
pub whole_within : (kind : Kind) → is_whole_number (option_and_then scalar_of (plain_of kind)) ≡ true → (of : Shape) × (kind ≡ shaped of) × (plain of ≡ shapes.whole)
whole_within kind h = scalar_within kind scalars.Whole (whole_of_scalar (option_and_then scalar_of (plain_of kind)) h)

-- what is plainly a whole is one
pub whole_is : (shape : Shape) → shape ≡ shapes.whole → is_whole_number (scalar_of shape) ≡ true
whole_is shape h = rw h refl

-- ---- numbers

-- numbers among the scalars
abbrev pub number_scalar : Numbers → Scalar
number_scalar Wholes = scalars.Whole
number_scalar Decimals = scalars.Decimal

-- their shapes
abbrev pub number_shape : Numbers → Shape
number_shape numbers = scalar_shape (number_scalar numbers)

-- their kinds
pub kind_of_numbers : (numbers : Numbers) → number_kind numbers ≡ shaped (number_shape numbers)
kind_of_numbers Wholes = refl
kind_of_numbers Decimals = refl

-- what has numbers is such a scalar
scalar_of_numbers : (scalar : Option Scalar) (numbers : Numbers) → option_and_then numbers_in scalar ≡ Some numbers → scalar ≡ Some (number_scalar numbers)
scalar_of_numbers (Some scalars.Whole) Wholes h = refl
scalar_of_numbers (Some scalars.Decimal) Decimals h = refl
scalar_of_numbers scalar numbers h = absurd (cc)

-- the kind of what is a number once it is plain
pub numbers_within : (kind : Kind) (numbers : Numbers) → option_and_then numbers_in (option_and_then scalar_of (plain_of kind)) ≡ Some numbers
    → (of : Shape) × (kind ≡ shaped of) × (plain of ≡ number_shape numbers)
numbers_within kind numbers h = scalar_within kind (number_scalar numbers) (scalar_of_numbers (option_and_then scalar_of (plain_of kind)) numbers h)

-- numbers have themselves
numbers_of_scalar : (numbers : Numbers) → option_and_then numbers_in (scalar_of (number_shape numbers)) ≡ Some numbers
numbers_of_scalar Wholes = refl
numbers_of_scalar Decimals = refl

-- likewise by another name
pub are_numbers : (shape : Shape) (numbers : Numbers) → shape ≡ number_shape numbers → option_and_then numbers_in (scalar_of shape) ≡ Some numbers
are_numbers shape numbers h = rw h (numbers_of_scalar numbers)

-- ---- lists and records

-- a plain shape that has items is a list's
list_shape : (at : ℕ) (of shape : Shape) → item_shape at (Some of) ≡ Ok shape → (max : ℕ) × (of ≡ shapes.list shape max)
list_shape at (shapes.list item max) shape h = (max, let same : item ≡ shape = cc in ap (λ item. shapes.list item max) same)
list_shape at shapes.bool shape h = absurd (cc)
list_shape at shapes.whole shape h = absurd (cc)
list_shape at shapes.decimal shape h = absurd (cc)
list_shape at shapes.text shape h = absurd (cc)
list_shape at (shapes.object named) shape h = absurd (cc)
list_shape at (shapes.optional inner) shape h = absurd (cc)

-- the kind of what has items
pub list_within : (at : ℕ) (kind : Kind) (shape : Shape) → item_shape at (plain_of kind) ≡ Ok shape → (of : Shape) × (max : ℕ) × (kind ≡ shaped of) × (plain of ≡ shapes.list shape max)
list_within at nil shape h = absurd (cc)
list_within at (shaped of) shape h = let found = list_shape at (plain of) shape h in (of, found.0, refl, found.1)

-- what is plainly a list has items
pub items_are : (at : ℕ) (of shape : Shape) (max : ℕ) → of ≡ shapes.list shape max → item_shape at (Some of) ≡ Ok shape
items_are at of shape max h = rw h refl

-- a field that is found is there
field_found : (at : ℕ) (found : Option Shape) (shape : Shape) → found_field at found ≡ Ok shape → found ≡ Some shape
field_found at (Some of) shape h = cc
field_found at None shape h = absurd (cc)

-- a plain shape that has fields is a record's
record_shape : (at : ℕ) (name : List ℕ) (of shape : Shape) → field_shape at name (Some of) ≡ Ok shape → (fields : FieldShapes) × (of ≡ shapes.object fields) × (shape_named name fields ≡ Some shape)
record_shape at name (shapes.object fields) shape h = (fields, refl, field_found at (shape_named name fields) shape h)
record_shape at name shapes.bool shape h = absurd (cc)
record_shape at name shapes.whole shape h = absurd (cc)
record_shape at name shapes.decimal shape h = absurd (cc)
record_shape at name shapes.text shape h = absurd (cc)
record_shape at name (shapes.list item max) shape h = absurd (cc)
record_shape at name (shapes.optional inner) shape h = absurd (cc)

-- the kind of what has fields
pub record_within : (at : ℕ) (name : List ℕ) (kind : Kind) (shape : Shape) → field_shape at name (plain_of kind) ≡ Ok shape
    → (of : Shape) × (fields : FieldShapes) × (kind ≡ shaped of) × (plain of ≡ shapes.object fields) × (shape_named name fields ≡ Some shape)
record_within at name nil shape h = absurd (cc)
record_within at name (shaped of) shape h = let found = record_shape at name (plain of) shape h in (of, found.0, refl, found.1, found.2)

-- what is plainly a record has fields
pub field_is : (at : ℕ) (name : List ℕ) (of shape : Shape) (named : FieldShapes) → of ≡ shapes.object named → shape_named name named ≡ Some shape → field_shape at name (Some of) ≡ Ok shape
field_is at name of shape named h k = rw h (rw k refl)
