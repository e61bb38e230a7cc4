-- What operations that continue at the next index take and give, by the kinds of their operands. The kind Nil is that
-- of the literal alone: no operation but IsNil and Default takes it.
use Rattle.ar_value.specs.Operators.{same_family}
use Rattle.std.specs.Prelude.{ℕ, zero, suc, Bool, true, false, ◌&&◌, if◌then◌else◌, List, [], ◌∷◌, Option, Some, None, option_map, option_and_then, slice_get}
use Rattle.ar_value.specs.Terms.{Text}
use Rattle.ar_value.specs.Kind.{Kind, nil, shaped, merge, plain, scalar_shape, boolean_kind}
use Rattle.ar_value.specs.Shape.{Shape, bool, whole, decimal, text, list, object, optional, shape_named}
use Rattle.ar_value.specs.declared.operator.Arithmetic.{Arithmetic}
use Rattle.ar_value.specs.declared.operator.Arithmetic.TheVariants.{Divide}
use Rattle.ar_value.specs.declared.operator.BinaryOperator.{BinaryOperator}
use Rattle.ar_value.specs.declared.operator.BinaryOperator.TheVariants as binary
use Rattle.ar_value.specs.declared.operator.Compared.{Compared}
use Rattle.ar_value.specs.declared.operator.Compared.TheVariants.{Wholes as WholesOnly, Decimals as DecimalsOnly, Mixed}
use Rattle.ar_value.specs.declared.operator.Family.{Family}
use Rattle.ar_value.specs.declared.operator.Family.TheVariants as families
use Rattle.ar_value.specs.declared.operator.Numbers.{Numbers}
use Rattle.ar_value.specs.declared.operator.Numbers.TheVariants as numbers
use Rattle.ar_value.specs.declared.operator.Scalar.{Scalar}
use Rattle.ar_value.specs.declared.operator.Scalar.TheVariants as scalars
use Rattle.ar_value.specs.declared.operator.UnaryOperator.{UnaryOperator}
use Rattle.ar_value.specs.declared.operator.UnaryOperator.TheVariants as unary
use Rattle.ar_op.specs.Code.{Code}
use Rattle.ar_op.specs.declared.op.Op.{Op}
use Rattle.ar_op.specs.declared.op.Op.TheVariants.{Push, MakeList, Field, Unary, Binary, Jump, Enter, Step, Return}
use Rattle.ar_op.specs.declared.op.Source.{Source}
use Rattle.ar_op.specs.declared.op.Source.TheVariants as sources

-- ---- scalars

abbrev pub family_of : Shape → Option Family
family_of bool = Some families.Boolean
family_of whole = Some families.Number
family_of decimal = Some families.Number
family_of text = Some families.Text
family_of shape = None

-- the family of a scalar that may be optional
abbrev pub family_in : Kind → Option Family
family_in nil = None
family_in (shaped shape) = family_of (plain shape)

abbrev pub is_family : Family → Option Family → Bool
is_family family (Some other) = same_family family other
is_family family None = false

abbrev pub are_one_family : Option Family → Option Family → Bool
are_one_family None other = false
are_one_family (Some family) other = is_family family other

-- ---- what operations give; nothing where they take other kinds

abbrev pub where_taken : Bool → Kind → Option Kind
where_taken is_taken kind = if is_taken then Some kind else None

abbrev pub is_scalar_kind : Scalar → Kind → Bool
is_scalar_kind scalars.Bool (shaped bool) = true
is_scalar_kind scalars.Whole (shaped whole) = true
is_scalar_kind scalars.Decimal (shaped decimal) = true
is_scalar_kind scalars.Text (shaped text) = true
is_scalar_kind scalar kind = false

abbrev pub field_kind : Text → Kind → Option Kind
field_kind name (shaped (object fields)) = option_map shaped (shape_named name fields)
field_kind name kind = None

abbrev pub item_kind : (list index : Kind) → Option Kind
item_kind (shaped (list shape max)) (shaped whole) = Some (shaped shape)
item_kind of index = None

abbrev pub length_kind : Kind → Option Kind
length_kind (shaped (list shape max)) = Some (shaped whole)
length_kind kind = None

abbrev pub needed_kind : Kind → Option Kind
needed_kind (shaped shape) = Some (shaped (plain shape))
needed_kind nil = None

-- the kind of what isn't nil, or of what replaces it
abbrev pub default_kind : (operand other : Kind) → Option Kind
default_kind nil other = Some other
default_kind (shaped shape) other = merge (shaped (plain shape)) other

-- a whole, also an optional one, as a decimal
abbrev pub decimal_shape : Shape → Option Shape
decimal_shape whole = Some decimal
decimal_shape (optional shape) = option_map optional (decimal_shape shape)
decimal_shape shape = None

abbrev pub decimal_kind : Kind → Option Kind
decimal_kind (shaped shape) = option_map shaped (decimal_shape shape)
decimal_kind nil = None

abbrev pub member_kind : (operand list : Kind) → Option Kind
member_kind operand (shaped (list shape max)) =
    where_taken (are_one_family (family_in operand) (family_of (plain shape))) boolean_kind
member_kind operand kind = None

abbrev pub opposite_kind : Kind → Option Kind
opposite_kind kind = where_taken (is_scalar_kind scalars.Bool kind) boolean_kind

abbrev pub quotient_kind : Arithmetic → Kind
quotient_kind Divide = shaped decimal
quotient_kind operator = shaped whole

abbrev pub wholes_kind : Arithmetic → (left right : Kind) → Option Kind
wholes_kind operator left right =
    where_taken (is_scalar_kind scalars.Whole left && is_scalar_kind scalars.Whole right) (quotient_kind operator)

abbrev pub decimals_kind : (left right : Kind) → Option Kind
decimals_kind left right =
    where_taken (is_scalar_kind scalars.Decimal left && is_scalar_kind scalars.Decimal right) (shaped decimal)

abbrev pub same_kind : Scalar → Kind → Option Kind
same_kind scalar kind = where_taken (is_scalar_kind scalar kind) kind

abbrev pub negative_kind : Numbers → Kind → Option Kind
negative_kind numbers.Wholes = same_kind scalars.Whole
negative_kind numbers.Decimals = same_kind scalars.Decimal

abbrev pub is_number : Kind → Bool
is_number (shaped whole) = true
is_number (shaped decimal) = true
is_number kind = false

abbrev pub is_compared : Compared → Kind → Bool
is_compared WholesOnly kind = is_scalar_kind scalars.Whole kind
is_compared DecimalsOnly kind = is_scalar_kind scalars.Decimal kind
is_compared Mixed kind = is_number kind

abbrev pub order_kind : Compared → (left right : Kind) → Option Kind
order_kind numbers left right = where_taken (is_compared numbers left && is_compared numbers right) boolean_kind

abbrev pub equal_kind : Family → (left right : Kind) → Option Kind
equal_kind family left right =
    where_taken (is_family family (family_in left) && is_family family (family_in right)) boolean_kind

abbrev pub text_test_kind : (left right : Kind) → Option Kind
text_test_kind left right =
    where_taken (is_scalar_kind scalars.Text left && is_scalar_kind scalars.Text right) boolean_kind

-- ---- operators by their families

abbrev pub unary_kind : UnaryOperator → Kind → Option Kind
unary_kind unary.Len = length_kind
unary_kind unary.Need = needed_kind
unary_kind unary.IsNil = λ kind. Some boolean_kind
unary_kind unary.ToDecimal = decimal_kind
unary_kind unary.Not = opposite_kind
unary_kind (unary.Negate of) = negative_kind of

abbrev pub binary_kind : BinaryOperator → (left right : Kind) → Option Kind
binary_kind binary.Index = item_kind
binary_kind binary.Default = default_kind
binary_kind binary.IsIn = member_kind
binary_kind (binary.Wholes operator) = wholes_kind operator
binary_kind (binary.Decimals operator) = decimals_kind
binary_kind (binary.Compare of way) = order_kind of
binary_kind (binary.Equal family) = equal_kind family
binary_kind (binary.TextTest test) = text_test_kind

-- ---- operands from the top; the right one is on top of the left one

abbrev pub on_one_kind : (Kind → Option Kind) → List Kind → Option (List Kind)
on_one_kind give (kind ∷ kinds) = option_map (λ given. given ∷ kinds) (give kind)
on_one_kind give [] = None

abbrev pub on_two_kinds : (Kind → Kind → Option Kind) → List Kind → Option (List Kind)
on_two_kinds give (right ∷ left ∷ kinds) = option_map (λ given. given ∷ kinds) (give left right)
on_two_kinds give kinds = None

-- n scalars of a kind from the top, as a list
abbrev pub list_kind_left : Scalar → (max : ℕ) → ℕ → List Kind → Option (List Kind)
list_kind_left scalar max zero kinds = Some (shaped (list (scalar_shape scalar) max) ∷ kinds)
list_kind_left scalar max (suc n) (kind ∷ kinds) =
    if is_scalar_kind scalar kind then list_kind_left scalar max n kinds else None
list_kind_left scalar max (suc n) [] = None

-- what is pushed, where `result` has a shape, and so has the innermost item of a loop
abbrev pub pushed_kind : Shape → Option Shape → Source → Option Kind
pushed_kind result here (sources.Bool holds) = Some boolean_kind
pushed_kind result here (sources.Whole value) = Some (shaped whole)
pushed_kind result here (sources.Decimal millionths) = Some (shaped decimal)
pushed_kind result here (sources.Text number) = Some (shaped text)
pushed_kind result here sources.Nil = Some nil
pushed_kind result here sources.Result = Some (shaped result)
pushed_kind result here sources.Item = option_map shaped here

-- the field of a record, by the number of its name
abbrev pub field_kind_left : Code → ℕ → List Kind → Option (List Kind)
field_kind_left code number kinds =
    option_and_then (λ name. on_one_kind (field_kind name) kinds) (slice_get code.names number)

-- what an operation leaves
abbrev pub kinds_left : Code → Shape → Option Shape → Op → List Kind → Option (List Kind)
kinds_left code result here (Push source) kinds = option_map (λ kind. kind ∷ kinds) (pushed_kind result here source)
kinds_left code result here (MakeList scalar count) kinds = list_kind_left scalar count count kinds
kinds_left code result here (Field number) kinds = field_kind_left code number kinds
kinds_left code result here (Unary operator) kinds = on_one_kind (unary_kind operator) kinds
kinds_left code result here (Binary operator) kinds = on_two_kinds (binary_kind operator) kinds
kinds_left code result here (Jump jump index) kinds = None
kinds_left code result here (Enter predicate step) kinds = None
kinds_left code result here (Step predicate enter) kinds = None
kinds_left code result here Return kinds = None
