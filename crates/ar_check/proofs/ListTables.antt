-- List literals, as the table of kinds says of them.
use Rattle.std.proofs.Common.{◌≡◌, ℕ, suc, List, [], ◌∷◌, length, Option, Some, None, Ok, refl, sym}
use Rattle.ar_value.specs.Kind.{shaped, scalar_shape}
use Rattle.ar_value.specs.Shape.{Shape}
use Rattle.ar_value.specs.Shape as shapes
use Rattle.ar_check.specs.Check.{Item, common_of, common_scalar, common_with, list_in_common, list_literal_of, no_scalar}
use Rattle.ar_check.specs.Operand.{Operand}
use Rattle.ar_check.specs.Typing.{InCommon, IsNumber, IsScalar, SumOf}
use Rattle.ar_check.specs.Typing as typing
use Rattle.ar_value.specs.declared.operator.Scalar.{Scalar}
use Rattle.ar_value.specs.declared.operator.Scalar.TheVariants as scalars
use Rattle.ar_check.proofs.Tables.{IsTyped, given_kind}

-- ---- scalars in common

-- whichever two of three scalars come first, all three have the same in common
common_assoc : (a b c : Option Scalar) → common_scalar (common_scalar a b) c ≡ common_scalar a (common_scalar b c)
common_assoc (Some scalars.Bool) (Some scalars.Bool) (Some scalars.Bool) = refl
common_assoc (Some scalars.Bool) (Some scalars.Whole) (Some scalars.Bool) = refl
common_assoc (Some scalars.Bool) (Some scalars.Decimal) (Some scalars.Bool) = refl
common_assoc (Some scalars.Bool) (Some scalars.Text) (Some scalars.Bool) = refl
common_assoc (Some scalars.Whole) (Some scalars.Bool) (Some scalars.Bool) = refl
common_assoc (Some scalars.Whole) (Some scalars.Whole) (Some scalars.Bool) = refl
common_assoc (Some scalars.Whole) (Some scalars.Decimal) (Some scalars.Bool) = refl
common_assoc (Some scalars.Whole) (Some scalars.Text) (Some scalars.Bool) = refl
common_assoc (Some scalars.Decimal) (Some scalars.Bool) (Some scalars.Bool) = refl
common_assoc (Some scalars.Decimal) (Some scalars.Whole) (Some scalars.Bool) = refl
common_assoc (Some scalars.Decimal) (Some scalars.Decimal) (Some scalars.Bool) = refl
common_assoc (Some scalars.Decimal) (Some scalars.Text) (Some scalars.Bool) = refl
common_assoc (Some scalars.Text) (Some scalars.Bool) (Some scalars.Bool) = refl
common_assoc (Some scalars.Text) (Some scalars.Whole) (Some scalars.Bool) = refl
common_assoc (Some scalars.Text) (Some scalars.Decimal) (Some scalars.Bool) = refl
common_assoc (Some scalars.Text) (Some scalars.Text) (Some scalars.Bool) = refl
common_assoc a b c = refl

-- a scalar comes before what others have in common
joined_more : (a b : Option Scalar) (items : List Item) → common_with (common_scalar a b) items ≡ common_scalar a (common_with b items)
joined_more a b [] = refl
joined_more a b (item ∷ items) = rw (common_assoc a b item.scalar) (joined_more a (common_scalar b item.scalar) items)

-- what several items have in common, by the first one and the others
pub common_of_more : (first second : Item) (items : List Item) → common_of (first ∷ second ∷ items) ≡ common_scalar first.scalar (common_of (second ∷ items))
common_of_more first second items = joined_more first.scalar second.scalar items

-- ---- the rows of items

-- a scalar's shape is one
scalar_row : (scalar : Scalar) → IsScalar (scalar_shape scalar)
scalar_row scalars.Bool = typing.is_boolean
scalar_row scalars.Whole = typing.is_number typing.is_whole
scalar_row scalars.Decimal = typing.is_number typing.is_decimal
scalar_row scalars.Text = typing.is_text

-- likewise by another name
pub scalar_row_of : (scalar : Scalar) (shape : Shape) → shape ≡ scalar_shape scalar → IsScalar shape
scalar_row_of scalar shape h = rw h (scalar_row scalar)

-- what is a scalar has one
pub scalars_row : {shape : Shape} → IsScalar shape → (scalar : Scalar) × (shape ≡ scalar_shape scalar)
scalars_row typing.is_boolean = (scalars.Bool, refl)
scalars_row (typing.is_number typing.is_whole) = (scalars.Whole, refl)
scalars_row (typing.is_number typing.is_decimal) = (scalars.Decimal, refl)
scalars_row typing.is_text = (scalars.Text, refl)

-- two scalars and what they have in common
common_row : (m n both : Scalar) → common_scalar (Some m) (Some n) ≡ Some both → InCommon (scalar_shape m) (scalar_shape n) (scalar_shape both)
common_row scalars.Bool scalars.Bool scalars.Bool h = typing.two_booleans
common_row scalars.Whole scalars.Whole scalars.Whole h = typing.two_numbers typing.of_wholes
common_row scalars.Whole scalars.Decimal scalars.Decimal h = typing.two_numbers typing.of_decimal_right
common_row scalars.Decimal scalars.Whole scalars.Decimal h = typing.two_numbers (typing.of_decimal_left typing.is_whole)
common_row scalars.Decimal scalars.Decimal scalars.Decimal h = typing.two_numbers (typing.of_decimal_left typing.is_decimal)
common_row scalars.Text scalars.Text scalars.Text h = typing.two_texts
common_row m n both h = absurd (cc)

-- likewise where the first has another name
pub common_row_of : (m n both : Scalar) (shape : Shape) → shape ≡ scalar_shape m → common_scalar (Some m) (Some n) ≡ Some both → InCommon shape (scalar_shape n) (scalar_shape both)
common_row_of m n both shape is h = rw is (common_row m n both h)

-- what has something in common are two scalars
abbrev pub AreCommon : Shape → Shape → Shape → Type 0
AreCommon left right both = (m n scalar : Scalar) × (left ≡ scalar_shape m) × (right ≡ scalar_shape n) × (both ≡ scalar_shape scalar) × (common_scalar (Some m) (Some n) ≡ Some scalar)

-- the rows of what has something in common
pub commons_row : {left right both : Shape} → InCommon left right both → AreCommon left right both
commons_row typing.two_booleans = (scalars.Bool, scalars.Bool, scalars.Bool, refl, refl, refl, refl)
commons_row (typing.two_numbers typing.of_wholes) = (scalars.Whole, scalars.Whole, scalars.Whole, refl, refl, refl, refl)
commons_row (typing.two_numbers (typing.of_decimal_left typing.is_whole)) = (scalars.Decimal, scalars.Whole, scalars.Decimal, refl, refl, refl, refl)
commons_row (typing.two_numbers (typing.of_decimal_left typing.is_decimal)) = (scalars.Decimal, scalars.Decimal, scalars.Decimal, refl, refl, refl, refl)
commons_row (typing.two_numbers typing.of_decimal_right) = (scalars.Whole, scalars.Decimal, scalars.Decimal, refl, refl, refl, refl)
commons_row typing.two_texts = (scalars.Text, scalars.Text, scalars.Text, refl, refl, refl, refl)

-- a scalar's shape is that of no other
pub same_scalar : (m n : Scalar) → scalar_shape m ≡ scalar_shape n → m ≡ n
same_scalar scalars.Bool scalars.Bool h = refl
same_scalar scalars.Whole scalars.Whole h = refl
same_scalar scalars.Decimal scalars.Decimal h = refl
same_scalar scalars.Text scalars.Text h = refl
same_scalar m n h = absurd (cc)

-- ---- items one after another

-- two that have something in common are scalars
two_scalars : (a b : Option Scalar) (both : Scalar) → common_scalar a b ≡ Some both → (m n : Scalar) × (a ≡ Some m) × (b ≡ Some n) × (common_scalar (Some m) (Some n) ≡ Some both)
two_scalars (Some m) (Some n) both h = (m, n, refl, refl, h)
two_scalars (Some scalars.Bool) None both h = absurd (cc)
two_scalars (Some scalars.Whole) None both h = absurd (cc)
two_scalars (Some scalars.Decimal) None both h = absurd (cc)
two_scalars (Some scalars.Text) None both h = absurd (cc)
two_scalars None b both h = absurd (cc)

-- of one item and others that have something in common, what each has
pub common_parts : (item : Item) (items : List Item) (others : ℕ) (both : Scalar) → length items ≡ suc others → common_of (item ∷ items) ≡ Some both
    → (m n : Scalar) × (item.scalar ≡ Some m) × (common_of items ≡ Some n) × (common_scalar (Some m) (Some n) ≡ Some both)
common_parts item [] others both many h = absurd (cc)
common_parts item (second ∷ items) others both many h = two_scalars item.scalar (common_of (second ∷ items)) both (rw (sym (common_of_more item second items)) h)

-- likewise the other way
pub common_whole : (item : Item) (items : List Item) (m n both : Scalar) → item.scalar ≡ Some m → common_of items ≡ Some n → common_scalar (Some m) (Some n) ≡ Some both → common_of (item ∷ items) ≡ Some both
common_whole item [] m n both h k is = absurd (cc)
common_whole item (second ∷ items) m n both h k is = rw (common_of_more item second items) (rw h (rw k is))

-- one more scalar
pub no_scalar_more : (item : Item) (items : List Item) (scalar : Scalar) → item.scalar ≡ Some scalar → no_scalar items ≡ None → no_scalar (item ∷ items) ≡ None
no_scalar_more item items scalar h k = rw h k

-- ---- list literals

-- what items have in common, where it is given
in_common_found : (at : ℕ) (items : List Item) (common : Option Scalar) (found : Operand) → list_in_common at items common ≡ Ok found
    → (scalar : Scalar) × (common ≡ Some scalar) × (shaped (shapes.list (scalar_shape scalar) (length items)) ≡ found.kind)
in_common_found at items (Some scalar) found h = (scalar, refl, given_kind _ (shaped (shapes.list (scalar_shape scalar) (length items))) found h)
in_common_found at items None found h = absurd (cc)

-- what a list literal's items have in common
pub list_found : (at : ℕ) (items : List Item) (offset : Option ℕ) (found : Operand) → list_literal_of at items offset ≡ Ok found
    → (scalar : Scalar) × (common_of items ≡ Some scalar) × (shaped (shapes.list (scalar_shape scalar) (length items)) ≡ found.kind)
list_found at items (Some offset) found h = absurd (cc)
list_found at items None found h = in_common_found at items (common_of items) found h

-- where items have a scalar in common, it is given
in_common_typed : (at : ℕ) (items : List Item) (common : Option Scalar) (scalar : Scalar) → common ≡ Some scalar → IsTyped (list_in_common at items common) (shaped (shapes.list (scalar_shape scalar) (length items)))
in_common_typed at items common scalar h = rw h (_, refl)

-- a list literal, where its items have something in common
pub list_typed : (at : ℕ) (items : List Item) (scalar : Scalar) → no_scalar items ≡ None → common_of items ≡ Some scalar
    → IsTyped (list_literal_of at items (no_scalar items)) (shaped (shapes.list (scalar_shape scalar) (length items)))
list_typed at items scalar h k = rw h (in_common_typed at items (common_of items) scalar k)
