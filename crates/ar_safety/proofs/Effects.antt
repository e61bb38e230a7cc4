-- Operations that continue at the next index do with operands of the kinds that they take what is said of kinds: they
-- leave operands of the kinds that they give, or meet a fault, and never touch what is below.
use Rattle.std.proofs.Common.{◌≡◌, ◌<◌, ◌≤◌, ℕ, zero, suc, ◌+◌, ℤ, Bool, true, false, nat_le, List, [], ◌∷◌, ◌++◌, length, Option, Some, None, option_map, IfSome, Result, Ok, Err, refl, ap, arith}
use Rattle.std.specs.Prelude.{◌&&◌, ◌||◌, if◌then◌else◌, option_and_then, slice_get}
use Rattle.std.proofs.lemmas.Bool.Decides.{nat_tests}
use Rattle.ar_value.specs.Answer.{◌>>=◌, there_or}
use Rattle.ar_value.specs.Arithmetic.{decimal_of_whole, decimal_product, difference, negation, product, quotient, remainder, sum}
use Rattle.ar_value.specs.Fits.{all_items, fits}
use Rattle.ar_value.specs.Kind.{Kind, nil, shaped, fits_kind, merge, plain, scalar_shape, boolean_kind}
use Rattle.ar_value.specs.Operators.{Failure, Meaning, faulted, ill_kinded}
use Rattle.ar_value.specs.Operators as operators
use Rattle.ar_value.specs.Shape.{Shape, shape_named}
use Rattle.ar_value.specs.Shape as shapes
use Rattle.ar_value.specs.Value.{Value, Items, count}
use Rattle.ar_value.specs.Value as values
use Rattle.ar_value.specs.declared.operator.Arithmetic.{Arithmetic}
use Rattle.ar_value.specs.declared.operator.Arithmetic.TheVariants.{Add, Subtract, Multiply, Divide, Remainder}
use Rattle.ar_value.specs.declared.operator.BinaryOperator.{BinaryOperator}
use Rattle.ar_value.specs.declared.operator.BinaryOperator.TheVariants as binary
use Rattle.ar_value.specs.declared.operator.Compared.{Compared}
use Rattle.ar_value.specs.declared.operator.Compared.TheVariants as compared
use Rattle.ar_value.specs.declared.operator.DecimalArithmetic.{DecimalArithmetic}
use Rattle.ar_value.specs.declared.operator.DecimalArithmetic.TheVariants as on_decimals
use Rattle.ar_value.specs.declared.operator.Family.{Family}
use Rattle.ar_value.specs.declared.operator.Family.TheVariants as families
use Rattle.ar_value.specs.declared.operator.Numbers.{Numbers}
use Rattle.ar_value.specs.declared.operator.Numbers.TheVariants as numbers
use Rattle.ar_value.specs.declared.operator.Order.{Order}
use Rattle.ar_value.specs.declared.operator.Scalar.{Scalar}
use Rattle.ar_value.specs.declared.operator.Scalar.TheVariants as scalars
use Rattle.ar_value.specs.declared.operator.TextTest.{TextTest}
use Rattle.ar_value.specs.declared.operator.UnaryOperator.{UnaryOperator}
use Rattle.ar_value.specs.declared.operator.UnaryOperator.TheVariants as unary
use Rattle.ar_value.proofs.Merges.{merge_has_both}
use Rattle.ar_op.specs.Code.{Code, Inside}
use Rattle.ar_op.specs.Machine as machine
use Rattle.ar_op.specs.declared.op.Op.{Op}
use Rattle.ar_op.specs.declared.op.Op.TheVariants.{Push, MakeList, Field, Unary, Binary}
use Rattle.ar_op.specs.declared.op.Source.{Source}
use Rattle.ar_op.specs.declared.op.Source.TheVariants as sources
use Rattle.ar_safety.specs.Effects.{decimal_kind, decimal_shape, decimals_kind, default_kind, kinds_left, equal_kind, family_in, family_of, field_kind, is_compared, is_family, is_number, is_scalar_kind, item_kind, length_kind, list_kind_left, member_kind, needed_kind, are_one_family, on_one_kind, on_two_kinds, opposite_kind, order_kind, quotient_kind, negative_kind, pushed_kind, text_test_kind, unary_kind, binary_kind, where_taken, wholes_kind}
use Rattle.ar_safety.proofs.Values.{Means, MeansKind, both, both_hold, decimal_or_fault, field_means, index_means, on_bool, on_decimal, on_list, on_text, on_whole, whole_or_fault, IsThere}

-- what an operation gives of one operand, and of two, is of the kind that is said
abbrev pub OneSound : (Kind → Option Kind) → (Value → Meaning) → Type 0
OneSound give act = (kind : Kind) (v : Value) → fits_kind v kind ≡ true → IfSome (give kind) (λ given. MeansKind given (act v))

abbrev pub TwoSound : (Kind → Kind → Option Kind) → (Value → Value → Meaning) → Type 0
TwoSound give act = (left right : Kind) (v w : Value) → fits_kind v left ≡ true → fits_kind w right ≡ true → IfSome (give left right) (λ given. MeansKind given (act v w))

-- where kinds are taken, they are such
taken : (is_taken : Bool) (kind : Kind) (m : Meaning) → (is_taken ≡ true → MeansKind kind m) → IfSome (where_taken is_taken kind) (λ given. MeansKind given m)
taken true kind m h = h refl
taken false kind m h = tt

-- ---- scalars

-- a value of a kind of scalars
scalar_fits : (scalar : Scalar) (kind : Kind) (v : Value) → is_scalar_kind scalar kind ≡ true → fits_kind v kind ≡ true → fits v (scalar_shape scalar) ≡ true
scalar_fits scalars.Bool (shaped shapes.bool) v is fit = fit
scalar_fits scalars.Whole (shaped shapes.whole) v is fit = fit
scalar_fits scalars.Decimal (shaped shapes.decimal) v is fit = fit
scalar_fits scalars.Text (shaped shapes.text) v is fit = fit
scalar_fits scalar kind v is fit = absurd cc

opposite_sound : OneSound opposite_kind operators.opposite
opposite_sound kind v fit =
    taken (is_scalar_kind scalars.Bool kind) boolean_kind (operators.opposite v)
    (λ is. on_bool (λ v. MeansKind boolean_kind (operators.opposite v)) (λ b. refl) v (scalar_fits scalars.Bool kind v is fit))

two_wholes : (P : Value → Value → Type 0) → ((x y : ℤ) → P (values.whole x) (values.whole y)) → (v w : Value) → fits v shapes.whole ≡ true → fits w shapes.whole ≡ true → P v w
two_wholes P each v w fit also = on_whole (λ v. P v w) (λ x. on_whole (λ w. P (values.whole x) w) (λ y. each x y) w also) v fit

two_decimals : (P : Value → Value → Type 0) → ((x y : ℤ) → P (values.decimal x) (values.decimal y)) → (v w : Value) → fits v shapes.decimal ≡ true → fits w shapes.decimal ≡ true → P v w
two_decimals P each v w fit also = on_decimal (λ v. P v w) (λ x. on_decimal (λ w. P (values.decimal x) w) (λ y. each x y) w also) v fit

of_wholes : (operator : Arithmetic) (x y : ℤ) → MeansKind (quotient_kind operator) (operators.whole_arithmetic operator x y)
of_wholes Add x y = whole_or_fault (sum x y)
of_wholes Subtract x y = whole_or_fault (difference x y)
of_wholes Multiply x y = whole_or_fault (product x y)
of_wholes Divide x y = decimal_or_fault (quotient x y)
of_wholes Remainder x y = whole_or_fault (remainder x y)

of_decimals : (operator : DecimalArithmetic) (x y : ℤ) → MeansKind (shaped shapes.decimal) (operators.decimal_arithmetic operator x y)
of_decimals on_decimals.Add x y = decimal_or_fault (sum x y)
of_decimals on_decimals.Subtract x y = decimal_or_fault (difference x y)
of_decimals on_decimals.Multiply x y = decimal_or_fault (decimal_product x y)
of_decimals on_decimals.Divide x y = decimal_or_fault (quotient x y)

wholes_sound : (operator : Arithmetic) → TwoSound (wholes_kind operator) (operators.wholes operator)
wholes_sound operator left right v w fit also =
    taken (is_scalar_kind scalars.Whole left && is_scalar_kind scalars.Whole right) (quotient_kind operator) (operators.wholes operator v w)
    (λ is. let each = both_hold (is_scalar_kind scalars.Whole left) (is_scalar_kind scalars.Whole right) is in
    two_wholes (λ v w. MeansKind (quotient_kind operator) (operators.wholes operator v w)) (λ x y. of_wholes operator x y) v w
    (scalar_fits scalars.Whole left v each.0 fit) (scalar_fits scalars.Whole right w each.1 also))

decimals_sound : (operator : DecimalArithmetic) → TwoSound decimals_kind (operators.decimals operator)
decimals_sound operator left right v w fit also =
    taken (is_scalar_kind scalars.Decimal left && is_scalar_kind scalars.Decimal right) (shaped shapes.decimal) (operators.decimals operator v w)
    (λ is. let each = both_hold (is_scalar_kind scalars.Decimal left) (is_scalar_kind scalars.Decimal right) is in
    two_decimals (λ v w. MeansKind (shaped shapes.decimal) (operators.decimals operator v w)) (λ x y. of_decimals operator x y) v w
    (scalar_fits scalars.Decimal left v each.0 fit) (scalar_fits scalars.Decimal right w each.1 also))

two_texts : (P : Value → Value → Type 0) → ((x y : List ℕ) → P (values.text x) (values.text y)) → (v w : Value) → fits v shapes.text ≡ true → fits w shapes.text ≡ true → P v w
two_texts P each v w fit also = on_text (λ v. P v w) (λ x. on_text (λ w. P (values.text x) w) (λ y. each x y) w also) v fit

text_test_sound : (test : TextTest) → TwoSound text_test_kind (operators.text_test test)
text_test_sound test left right v w fit also =
    taken (is_scalar_kind scalars.Text left && is_scalar_kind scalars.Text right) boolean_kind (operators.text_test test v w)
    (λ is. let each = both_hold (is_scalar_kind scalars.Text left) (is_scalar_kind scalars.Text right) is in
    two_texts (λ v w. MeansKind boolean_kind (operators.text_test test v w)) (λ x y. refl) v w
    (scalar_fits scalars.Text left v each.0 fit) (scalar_fits scalars.Text right w each.1 also))

negative_sound : (of : Numbers) → OneSound (negative_kind of) (operators.negative of)
negative_sound numbers.Wholes (shaped shapes.whole) v fit = on_whole (λ v. MeansKind (shaped shapes.whole) (operators.negative numbers.Wholes v)) (λ w. whole_or_fault (negation w)) v fit
negative_sound numbers.Decimals (shaped shapes.decimal) v fit = on_decimal (λ v. MeansKind (shaped shapes.decimal) (operators.negative numbers.Decimals v)) (λ d. decimal_or_fault (negation d)) v fit
negative_sound numbers.Wholes kind v fit = tt
negative_sound numbers.Decimals kind v fit = tt

-- ---- order

on_number : (P : Value → Type 0) → ((w : ℤ) → P (values.whole w)) → ((d : ℤ) → P (values.decimal d)) → (kind : Kind) (v : Value) → is_number kind ≡ true → fits_kind v kind ≡ true → P v
on_number P of_whole of_decimal (shaped shapes.whole) v is fit = on_whole P of_whole v fit
on_number P of_whole of_decimal (shaped shapes.decimal) v is fit = on_decimal P of_decimal v fit
on_number P of_whole of_decimal kind v is fit = absurd cc

compares : (numbers : Compared) (way : Order) (left right : Kind) (v w : Value) → is_compared numbers left ≡ true → is_compared numbers right ≡ true → fits_kind v left ≡ true → fits_kind w right ≡ true
    → MeansKind boolean_kind (operators.compare numbers way v w)
compares compared.Wholes way left right v w is next_to fit also =
    two_wholes (λ v w. MeansKind boolean_kind (operators.compare compared.Wholes way v w)) (λ x y. refl) v w (scalar_fits scalars.Whole left v is fit) (scalar_fits scalars.Whole right w next_to also)
compares compared.Decimals way left right v w is next_to fit also =
    two_decimals (λ v w. MeansKind boolean_kind (operators.compare compared.Decimals way v w)) (λ x y. refl) v w (scalar_fits scalars.Decimal left v is fit) (scalar_fits scalars.Decimal right w next_to also)
compares compared.Mixed way left right v w is next_to fit also =
    on_number (λ v. MeansKind boolean_kind (operators.compare compared.Mixed way v w))
    (λ x. on_number (λ w. MeansKind boolean_kind (operators.compare compared.Mixed way (values.whole x) w)) (λ y. refl) (λ y. refl) right w next_to also)
    (λ x. on_number (λ w. MeansKind boolean_kind (operators.compare compared.Mixed way (values.decimal x) w)) (λ y. refl) (λ y. refl) right w next_to also) left v is fit

compare_sound : (numbers : Compared) (way : Order) → TwoSound (order_kind numbers) (operators.compare numbers way)
compare_sound numbers way left right v w fit also =
    taken (is_compared numbers left && is_compared numbers right) boolean_kind (operators.compare numbers way v w)
    (λ is. let each = both_hold (is_compared numbers left) (is_compared numbers right) is in compares numbers way left right v w each.0 each.1 fit also)

-- ---- families

in_family_by : (family : Family) (shape : Shape) (v : Value) → is_family family (family_of shape) ≡ true → fits v shape ≡ true → operators.is_in_family family v ≡ true
in_family_by families.Boolean shapes.bool (values.bool b) is fit = refl
in_family_by families.Number shapes.whole (values.whole w) is fit = refl
in_family_by families.Number shapes.decimal (values.decimal d) is fit = refl
in_family_by families.Text shapes.text (values.text t) is fit = refl
in_family_by family shape values.nil is fit = refl
in_family_by family shape v is fit = absurd cc

-- nil, or a scalar of a family
in_family : (family : Family) (shape : Shape) (v : Value) → is_family family (family_of (plain shape)) ≡ true → fits v shape ≡ true → operators.is_in_family family v ≡ true
in_family family (shapes.optional shape) values.nil is fit = refl
in_family family (shapes.optional shape) v is fit = in_family_by family shape v is fit
in_family family shape v is fit = in_family_by family shape v is fit

kind_in_family : (family : Family) (kind : Kind) (v : Value) → is_family family (family_in kind) ≡ true → fits_kind v kind ≡ true → operators.is_in_family family v ≡ true
kind_in_family family (shaped shape) v is fit = in_family family shape v is fit
kind_in_family families.Boolean nil v is fit = absurd cc
kind_in_family families.Number nil v is fit = absurd cc
kind_in_family families.Text nil v is fit = absurd cc

all_in_family : (family : Family) (shape : Shape) (items : Items) → is_family family (family_of (plain shape)) ≡ true → all_items (λ v. fits v shape) items ≡ true → operators.are_in_family family items ≡ true
all_in_family family shape values.no_items is fit = refl
all_in_family family shape (values.item v items) is fit =
    let parts = both_hold (fits v shape) (all_items (λ v. fits v shape) items) fit in
    both (operators.is_in_family family v) (operators.are_in_family family items) (in_family family shape v is parts.0) (all_in_family family shape items is parts.1)

kinded_means : (is_kinded : Bool) (b : Bool) → is_kinded ≡ true → MeansKind boolean_kind (operators.where_kinded is_kinded (values.bool b))
kinded_means true b h = refl
kinded_means false b h = absurd cc

equal_sound : (family : Family) → TwoSound (equal_kind family) (operators.equal family)
equal_sound family left right v w fit also =
    taken (is_family family (family_in left) && is_family family (family_in right)) boolean_kind (operators.equal family v w)
    (λ is. let each = both_hold (is_family family (family_in left)) (is_family family (family_in right)) is in
    kinded_means (operators.is_in_family family v && operators.is_in_family family w) (operators.same v w)
    (both (operators.is_in_family family v) (operators.is_in_family family w) (kind_in_family family left v each.0 fit) (kind_in_family family right w each.1 also)))

middle : (a b c : Bool) → b ≡ true → (a || b || c) ≡ true
middle true b c h = refl
middle false b c h = rw h refl

last : (a b c : Bool) → c ≡ true → (a || b || c) ≡ true
last true b c h = refl
last false true c h = refl
last false false c h = h

family_is_one : (family : Family) (value : Value) (items : Items) → operators.are_in_family family (values.item value items) ≡ true → operators.of_one_family value items ≡ true
family_is_one families.Boolean value items h = rw h refl
family_is_one families.Number value items h = middle (operators.are_in_family families.Boolean (values.item value items)) (operators.are_in_family families.Number (values.item value items)) (operators.are_in_family families.Text (values.item value items)) h
family_is_one families.Text value items h = last (operators.are_in_family families.Boolean (values.item value items)) (operators.are_in_family families.Number (values.item value items)) (operators.are_in_family families.Text (values.item value items)) h

is_itself : (family : Family) → is_family family (Some family) ≡ true
is_itself families.Boolean = refl
is_itself families.Number = refl
is_itself families.Text = refl

-- a value and items, where their families are one
one_family : (of next_to : Option Family) (kind : Kind) (shape : Shape) (v : Value) (items : Items) → family_in kind ≡ of → family_of (plain shape) ≡ next_to → are_one_family of next_to ≡ true → fits_kind v kind ≡ true
    → all_items (λ v. fits v shape) items ≡ true → operators.of_one_family v items ≡ true
one_family (Some family) next_to kind shape v items is also one fit all =
    family_is_one family v items
    (both (operators.is_in_family family v) (operators.are_in_family family items) (kind_in_family family kind v (rw is (is_itself family)) fit) (all_in_family family shape items (rw also one) all))
one_family None next_to kind shape v items is also one fit all = absurd cc

member_sound : TwoSound member_kind operators.is_among
member_sound kind (shaped (shapes.list shape max)) v w fit also =
    taken (are_one_family (family_in kind) (family_of (plain shape))) boolean_kind (operators.is_among v w)
    (λ one. on_list (λ w. MeansKind boolean_kind (operators.is_among v w)) shape max
    (λ items short all. kinded_means (operators.of_one_family v items) (operators.has_item v items) (one_family (family_in kind) (family_of (plain shape)) kind shape v items refl refl one fit all)) w also)
member_sound kind other v w fit also = tt

-- ---- nil

needed : (shape : Shape) (v : Value) → fits v shape ≡ true → MeansKind (shaped (plain shape)) (operators.not_nil v)
needed (shapes.optional shape) values.nil fit = tt
needed (shapes.optional shape) (values.bool b) fit = fit
needed (shapes.optional shape) (values.whole w) fit = fit
needed (shapes.optional shape) (values.decimal d) fit = fit
needed (shapes.optional shape) (values.text t) fit = fit
needed (shapes.optional shape) (values.list items) fit = fit
needed (shapes.optional shape) (values.object given) fit = fit
needed shape values.nil fit = tt
needed shape v fit = fit

needed_sound : OneSound needed_kind operators.not_nil
needed_sound (shaped shape) v fit = needed shape v fit
needed_sound nil v fit = tt

some_boolean : OneSound (λ kind. Some boolean_kind) (λ v. Ok (values.bool (operators.is_nil v)))
some_boolean kind v fit = refl

converted : (v : Value) → fits v shapes.whole ≡ true → MeansKind (shaped shapes.decimal) (operators.to_decimal v)
converted v fit = on_whole (λ v. MeansKind (shaped shapes.decimal) (operators.to_decimal v)) (λ w. decimal_or_fault (decimal_of_whole w)) v fit

fits_optional : (v : Value) (shape : Shape) → fits v shape ≡ true → fits v (shapes.optional shape) ≡ true
fits_optional values.nil shape fit = refl
fits_optional v shape fit = fit

or_nil_means : (shape : Shape) (m : Meaning) → MeansKind (shaped shape) m → MeansKind (shaped (shapes.optional shape)) m
or_nil_means shape (Ok v) h = fits_optional v shape h
or_nil_means shape (Err (faulted fault)) h = tt
or_nil_means shape (Err ill_kinded) h = h

nil_converted : (shape : Option Shape) → IfSome (option_map shapes.optional shape) (λ shape. MeansKind (shaped shape) (operators.to_decimal values.nil))
nil_converted (Some shape) = refl
nil_converted None = tt

inside_converted : (shape : Option Shape) (m : Meaning) → IfSome shape (λ shape. MeansKind (shaped shape) m) → IfSome (option_map shapes.optional shape) (λ shape. MeansKind (shaped shape) m)
inside_converted (Some shape) m h = or_nil_means shape m h
inside_converted None m h = tt

shape_converted : (shape : Shape) (v : Value) → fits v shape ≡ true → IfSome (decimal_shape shape) (λ shape. MeansKind (shaped shape) (operators.to_decimal v))
shape_converted shapes.whole v fit = converted v fit
shape_converted (shapes.optional shape) values.nil fit = nil_converted (decimal_shape shape)
shape_converted (shapes.optional shape) v fit = inside_converted (decimal_shape shape) (operators.to_decimal v) (shape_converted shape v fit)
shape_converted shape v fit = tt

kind_of_shape : (shape : Option Shape) (m : Meaning) → IfSome shape (λ shape. MeansKind (shaped shape) m) → IfSome (option_map shaped shape) (λ kind. MeansKind kind m)
kind_of_shape (Some shape) m h = h
kind_of_shape None m h = tt

decimal_sound : OneSound decimal_kind operators.to_decimal
decimal_sound (shaped shape) v fit = kind_of_shape (decimal_shape shape) (operators.to_decimal v) (shape_converted shape v fit)
decimal_sound nil v fit = tt

-- what isn't nil fits the plain shape
plain_fits : (shape : Shape) (v : Value) → operators.is_nil v ≡ false → fits v shape ≡ true → fits v (plain shape) ≡ true
plain_fits (shapes.optional shape) values.nil is fit = absurd cc
plain_fits (shapes.optional shape) v is fit = fit
plain_fits shape v is fit = fit

abbrev otherwise : Value → Value → Meaning
otherwise v w = Ok (if operators.is_nil v then w else v)

either_fits : (left right merged : Kind) (v : Value) → merge left right ≡ Some merged → (fits_kind v left ≡ true) → fits_kind v merged ≡ true
either_fits left right merged v is fit = merge_has_both left right merged v is (rw fit refl)

or_fits : (a b : Bool) → b ≡ true → (a || b) ≡ true
or_fits true b h = refl
or_fits false b h = h

other_fits : (left right merged : Kind) (v : Value) → merge left right ≡ Some merged → (fits_kind v right ≡ true) → fits_kind v merged ≡ true
other_fits left right merged v is fit = merge_has_both left right merged v is (or_fits (fits_kind v left) (fits_kind v right) fit)

chosen : (is_nil : Bool) (left right merged : Kind) (v w : Value) → merge left right ≡ Some merged → (is_nil ≡ false → fits_kind v left ≡ true) → fits_kind w right ≡ true
    → fits_kind (if is_nil then w else v) merged ≡ true
chosen true left right merged v w is fit also = other_fits left right merged w is also
chosen false left right merged v w is fit also = either_fits left right merged v is (fit refl)

some_chosen : (given : Option Kind) (shape : Shape) (right : Kind) (v w : Value) → merge (shaped (plain shape)) right ≡ given → fits v shape ≡ true → fits_kind w right ≡ true
    → IfSome given (λ given. MeansKind given (otherwise v w))
some_chosen (Some merged) shape right v w is fit also = chosen (operators.is_nil v) (shaped (plain shape)) right merged v w is (λ no. plain_fits shape v no fit) also
some_chosen None shape right v w is fit also = tt

only_nil : (kind : Kind) (v w : Value) → fits_kind v nil ≡ true → fits_kind w kind ≡ true → fits_kind (if operators.is_nil v then w else v) kind ≡ true
only_nil kind values.nil w fit also = also
only_nil kind v w fit also = absurd cc

default_sound : TwoSound default_kind otherwise
default_sound nil right v w fit also = only_nil right v w fit also
default_sound (shaped shape) right v w fit also = some_chosen (merge (shaped (plain shape)) right) shape right v w refl fit also

-- ---- records and lists

named : (name : List ℕ) (found : Option Shape) (v : Value) → ((shape : Shape) → found ≡ Some shape → MeansKind (shaped shape) (operators.field_in name v)) → IfSome (option_map shaped found) (λ given. MeansKind given (operators.field_in name v))
named name (Some shape) v h = h shape refl
named name None v h = tt

field_sound : (name : List ℕ) → OneSound (field_kind name) (operators.field_in name)
field_sound name (shaped (shapes.object fields)) v fit = named name (shape_named name fields) v (λ shape is. field_means name fields shape v is fit)
field_sound name kind v fit = tt

item_sound : TwoSound item_kind operators.index_in
item_sound (shaped (shapes.list shape max)) (shaped shapes.whole) v w fit also = index_means shape max v w fit also
item_sound left right v w fit also = tt

length_sound : OneSound length_kind operators.length_meaning
length_sound (shaped (shapes.list shape max)) v fit = on_list (λ v. MeansKind (shaped shapes.whole) (operators.length_meaning v)) shape max (λ items short all. refl) v fit
length_sound kind v fit = tt

-- ---- operators by their families

pub unary_sound : (operator : UnaryOperator) → OneSound (unary_kind operator) (operators.unary_meaning operator)
unary_sound unary.Len = length_sound
unary_sound unary.Need = needed_sound
unary_sound unary.IsNil = some_boolean
unary_sound unary.ToDecimal = decimal_sound
unary_sound unary.Not = opposite_sound
unary_sound (unary.Negate of) = negative_sound of

pub binary_sound : (operator : BinaryOperator) → TwoSound (binary_kind operator) (operators.binary_meaning operator)
binary_sound binary.Index = item_sound
binary_sound binary.Default = default_sound
binary_sound binary.IsIn = member_sound
binary_sound (binary.Wholes operator) = wholes_sound operator
binary_sound (binary.Decimals operator) = decimals_sound operator
binary_sound (binary.Compare of way) = compare_sound of way
binary_sound (binary.Equal family) = equal_sound family
binary_sound (binary.TextTest test) = text_test_sound test

-- ---- operands

-- operands of kinds, the top first
abbrev pub Fit : List Value → List Kind → Type 0
Fit [] [] = Unit {0}
Fit (v ∷ vs) (kind ∷ kinds) = (fits_kind v kind ≡ true) × Fit vs kinds
Fit vs kinds = ⊥

pub fit_length : (vs : List Value) (kinds : List Kind) → Fit vs kinds → length vs ≡ length kinds
fit_length [] [] fit = refl
fit_length (v ∷ vs) (kind ∷ kinds) fit = ap suc (fit_length vs kinds fit.1)
fit_length [] (kind ∷ kinds) fit = absurd fit
fit_length (v ∷ vs) [] fit = absurd fit

module _ (base : List Value) where
  -- operands of kinds above others, or a fault
  abbrev pub Leaves : List Kind → Result (List Value) Failure → Type 0
  Leaves kinds m = Means (λ operands. (top : List Value) × (operands ≡ top ++ base) × Fit top kinds) m

  pushed : (v : Value) (kind : Kind) (top : List Value) (kinds : List Kind) → fits_kind v kind ≡ true → Fit top kinds → Leaves (kind ∷ kinds) (Ok (v ∷ (top ++ base)))
  pushed v kind top kinds fit fits = (v ∷ top, refl, (fit, fits))

  -- a value or a fault, in front of others
  given : (kind : Option Kind) (m : Meaning) (top : List Value) (kinds : List Kind) → IfSome kind (λ kind. MeansKind kind m) → Fit top kinds
      → IfSome (option_map (λ kind. kind ∷ kinds) kind) (λ kinds. Leaves kinds (m >>= λ v. Ok (v ∷ (top ++ base))))
  given (Some kind) (Ok v) top kinds means fit = pushed v kind top kinds means fit
  given (Some kind) (Err (faulted fault)) top kinds means fit = tt
  given (Some kind) (Err ill_kinded) top kinds means fit = absurd means
  given None m top kinds means fit = tt

  of_one : (give : Kind → Option Kind) (act : Value → Meaning) (top : List Value) (kinds : List Kind) → OneSound give act → Fit top kinds
      → IfSome (on_one_kind give kinds) (λ kinds. Leaves kinds (machine.on_one act (top ++ base)))
  of_one give act (v ∷ top) (kind ∷ kinds) sound fit = given (give kind) (act v) top kinds (sound kind v fit.0) fit.1
  of_one give act [] (kind ∷ kinds) sound fit = absurd fit
  of_one give act top [] sound fit = tt

  of_two : (give : Kind → Kind → Option Kind) (act : Value → Value → Meaning) (top : List Value) (kinds : List Kind) → TwoSound give act → Fit top kinds
      → IfSome (on_two_kinds give kinds) (λ kinds. Leaves kinds (machine.on_two act (top ++ base)))
  of_two give act (w ∷ v ∷ top) (right ∷ left ∷ kinds) sound fit = given (give left right) (act v w) top kinds (sound left right v w fit.1.0 fit.0) fit.1.1
  of_two give act (w ∷ []) (right ∷ left ∷ kinds) sound fit = absurd fit.1
  of_two give act [] (right ∷ left ∷ kinds) sound fit = absurd fit
  of_two give act top (right ∷ []) sound fit = tt
  of_two give act top [] sound fit = tt

  -- ---- list literals

  scalar_of_kind : (scalar : Scalar) (kind : Kind) (v : Value) → is_scalar_kind scalar kind ≡ true → fits_kind v kind ≡ true → machine.is_scalar scalar v ≡ true
  scalar_of_kind scalars.Bool kind v is fit = on_bool (λ v. machine.is_scalar scalars.Bool v ≡ true) (λ b. refl) v (scalar_fits scalars.Bool kind v is fit)
  scalar_of_kind scalars.Whole kind v is fit = on_whole (λ v. machine.is_scalar scalars.Whole v ≡ true) (λ w. refl) v (scalar_fits scalars.Whole kind v is fit)
  scalar_of_kind scalars.Decimal kind v is fit = on_decimal (λ v. machine.is_scalar scalars.Decimal v ≡ true) (λ d. refl) v (scalar_fits scalars.Decimal kind v is fit)
  scalar_of_kind scalars.Text kind v is fit = on_text (λ v. machine.is_scalar scalars.Text v ≡ true) (λ t. refl) v (scalar_fits scalars.Text kind v is fit)

  -- a test of kinds that the values meet
  tested : (test : Bool) (given : Option (List Kind)) (is : Bool) (m : Result (List Value) Failure) → (test ≡ true → is ≡ true) → (test ≡ true → IfSome given (λ kinds. Leaves kinds m))
      → IfSome (if test then given else None) (λ kinds. Leaves kinds (if is then m else Err ill_kinded))
  tested true given true m h sound = sound refl
  tested true given false m h sound = let no : false ≡ true = h refl in absurd cc
  tested false given is m h sound = tt

  -- n scalars in front of items that fit
  made : (scalar : Scalar) (max n : ℕ) (items : Items) (top : List Value) (kinds : List Kind) → n + count items ≤ max → all_items (λ v. fits v (scalar_shape scalar)) items ≡ true → Fit top kinds
      → IfSome (list_kind_left scalar max n kinds) (λ kinds. Leaves kinds (machine.list_made scalar n items (top ++ base)))
  made scalar max zero items top kinds few all fit =
      pushed (values.list items) (shaped (shapes.list (scalar_shape scalar) max)) top kinds
      (both (nat_le (count items) max) (all_items (λ v. fits v (scalar_shape scalar)) items) (grind (arith, nat_tests)) all) fit
  made scalar max (suc n) items (v ∷ top) (kind ∷ kinds) few all fit =
      tested (is_scalar_kind scalar kind) (list_kind_left scalar max n kinds) (machine.is_scalar scalar v) (machine.list_made scalar n (values.item v items) (top ++ base)) (λ is. scalar_of_kind scalar kind v is fit.0)
      (λ is. made scalar max n (values.item v items) top kinds (omega arith)
      (both (fits v (scalar_shape scalar)) (all_items (λ v. fits v (scalar_shape scalar)) items) (scalar_fits scalar kind v is fit.0) all) fit.1)
  made scalar max (suc n) items [] (kind ∷ kinds) few all fit = absurd fit
  made scalar max (suc n) items top [] few all fit = tt

  -- ---- all operations

  text_pushed : (texts : List (List ℕ)) (n : ℕ) → n < length texts → MeansKind (shaped shapes.text) (there_or ill_kinded (slice_get texts n) >>= λ letters. Ok (values.text letters))
  text_pushed (text ∷ texts) zero inside = refl
  text_pushed (text ∷ texts) (suc n) inside = text_pushed texts n (omega arith)
  text_pushed [] n inside = absurd (omega arith)

  item_pushed : (shape : Option Shape) (v : Option Value) → IsThere shape v → IfSome (option_map shaped shape) (λ kind. MeansKind kind (there_or ill_kinded v))
  item_pushed (Some shape) (Some v) there = there
  item_pushed (Some shape) None there = absurd there
  item_pushed None v there = tt

  field_taken : (name : Option (List ℕ)) (top : List Value) (kinds : List Kind) → Fit top kinds
      → IfSome (option_and_then (λ name. on_one_kind (field_kind name) kinds) name) (λ kinds. Leaves kinds (there_or ill_kinded name >>= λ name. machine.on_one (operators.field_in name) (top ++ base)))
  field_taken (Some name) top kinds fit = of_one (field_kind name) (operators.field_in name) top kinds (field_sound name) fit
  field_taken None top kinds fit = tt

  module _ (code : Code) (result : Value) (shape : Shape) (is : fits result shape ≡ true) (item : Option Value) (of : Option Shape) (there : IsThere of item) where
    source_sound : (source : Source) → Inside (length code.texts) (length code.names) (Push source) → IfSome (pushed_kind shape of source) (λ kind. MeansKind kind (machine.pushed code result item source))
    source_sound (sources.Bool holds) inside = refl
    source_sound (sources.Whole value) inside = refl
    source_sound (sources.Decimal millionths) inside = refl
    source_sound (sources.Text number) inside = text_pushed code.texts number inside
    source_sound sources.Nil inside = refl
    source_sound sources.Result inside = is
    source_sound sources.Item inside = item_pushed of item there

    pub effect_sound : (op : Op) → Inside (length code.texts) (length code.names) op
        → (top : List Value) (kinds : List Kind) → Fit top kinds → IfSome (kinds_left code shape of op kinds) (λ kinds. Leaves kinds (machine.effect code result item op (top ++ base)))
    effect_sound (Push source) inside top kinds fit = given (pushed_kind shape of source) (machine.pushed code result item source) top kinds (source_sound source inside) fit
    effect_sound (MakeList scalar count) inside top kinds fit = made scalar count count values.no_items top kinds (omega arith) refl fit
    effect_sound (Field number) inside top kinds fit = field_taken (slice_get code.names number) top kinds fit
    effect_sound (Unary operator) inside top kinds fit = of_one (unary_kind operator) (operators.unary_meaning operator) top kinds (unary_sound operator) fit
    effect_sound (Binary operator) inside top kinds fit = of_two (binary_kind operator) (operators.binary_meaning operator) top kinds (binary_sound operator) fit
    effect_sound op inside top kinds fit = tt
