-- What operators give, by the parts of a list's kind.
use Rattle.std.proofs.Common.{◌≡◌, ℕ, Bool, true, false, Option, Some, None, option_map, refl}
use Rattle.std.specs.Prelude.{◌||◌, if◌then◌else◌, option_and_then}
use Rattle.ar_value.specs.Kind.{Kind, nil, shaped, plain, boolean_kind}
use Rattle.ar_value.specs.Shape.{Shape, bool, whole, decimal, text, list, object, optional}
use Rattle.ar_value.specs.declared.operator.Scalar.TheVariants as scalars
use Rattle.ar_safety.specs.Effects.{family_in, family_of, is_number, is_scalar_kind, item_kind, length_kind, member_kind, are_one_family, where_taken}
use Rattle.ar_verify.specs.Private.Kinds.{list_in}
use Rattle.ar_verify.specs.Private.Lists.{is_list, list_parts, longest}
use Rattle.ar_verify.specs.Private.Roots.{child}

-- ---- lists by their shapes

pub of_a_list : (shape : Shape) → is_list shape ≡ true → list_parts shape ≡ Some (child 0 shape, longest shape)
of_a_list (list shape max) h = refl
of_a_list shape h = absurd cc

pub of_no_list : (shape : Shape) → is_list shape ≡ false → list_parts shape ≡ None
of_no_list (list shape max) h = absurd cc
of_no_list shape h = refl

pub list_itself : (shape : Shape) → is_list shape ≡ true → shape ≡ list (child 0 shape) (longest shape)
list_itself (list shape max) h = refl
list_itself shape h = absurd cc

-- ---- operators

both_same : (test : Bool) (kind : Option Kind) → kind ≡ (if test then kind else kind)
both_same true kind = refl
both_same false kind = refl

at_index : (item : Shape) (max : ℕ) (index : Kind) → item_kind (shaped (list item max)) index ≡ (if is_scalar_kind scalars.Whole index then Some (shaped item) else None)
at_index item max nil = refl
at_index item max (shaped bool) = refl
at_index item max (shaped whole) = refl
at_index item max (shaped decimal) = refl
at_index item max (shaped text) = refl
at_index item max (shaped (list shape most)) = refl
at_index item max (shaped (object inside)) = refl
at_index item max (shaped (optional shape)) = refl

item_is : (of index : Kind) → item_kind of index ≡ (if is_scalar_kind scalars.Whole index then option_map (λ parts. shaped parts.0) (list_in of) else None)
item_is nil index = both_same (is_scalar_kind scalars.Whole index) None
item_is (shaped bool) index = both_same (is_scalar_kind scalars.Whole index) None
item_is (shaped whole) index = both_same (is_scalar_kind scalars.Whole index) None
item_is (shaped decimal) index = both_same (is_scalar_kind scalars.Whole index) None
item_is (shaped text) index = both_same (is_scalar_kind scalars.Whole index) None
item_is (shaped (list shape most)) index = at_index shape most index
item_is (shaped (object inside)) index = both_same (is_scalar_kind scalars.Whole index) None
item_is (shaped (optional shape)) index = both_same (is_scalar_kind scalars.Whole index) None

pub item_by_list : (of index : Kind) (parts : Option (Shape × ℕ)) (is_whole : Bool) → is_whole ≡ is_scalar_kind scalars.Whole index → parts ≡ list_in of
    → item_kind of index ≡ (if is_whole then option_map (λ parts. shaped parts.0) parts else None)
item_by_list of index parts is_whole test is = rw (test, is) (item_is of index)

length_is : (of : Kind) → length_kind of ≡ option_map (λ parts. shaped whole) (list_in of)
length_is nil = refl
length_is (shaped bool) = refl
length_is (shaped whole) = refl
length_is (shaped decimal) = refl
length_is (shaped text) = refl
length_is (shaped (list shape most)) = refl
length_is (shaped (object inside)) = refl
length_is (shaped (optional shape)) = refl

pub length_of_list : (of : Kind) (parts : Option (Shape × ℕ)) → parts ≡ list_in of → length_kind of ≡ option_map (λ parts. shaped whole) parts
length_of_list of parts is = rw is (length_is of)

member_is : (operand of : Kind)
    → member_kind operand of ≡ option_and_then (λ parts. where_taken (are_one_family (family_in operand) (family_of (plain parts.0))) boolean_kind) (list_in of)
member_is operand nil = refl
member_is operand (shaped bool) = refl
member_is operand (shaped whole) = refl
member_is operand (shaped decimal) = refl
member_is operand (shaped text) = refl
member_is operand (shaped (list shape most)) = refl
member_is operand (shaped (object inside)) = refl
member_is operand (shaped (optional shape)) = refl

pub member_of_list : (operand of : Kind) (parts : Option (Shape × ℕ)) → parts ≡ list_in of
    → member_kind operand of ≡ option_and_then (λ parts. where_taken (are_one_family (family_in operand) (family_of (plain parts.0))) boolean_kind) parts
member_of_list operand of parts is = rw is (member_is operand of)

number_is : (kind : Kind) → is_number kind ≡ (is_scalar_kind scalars.Whole kind || is_scalar_kind scalars.Decimal kind)
number_is nil = refl
number_is (shaped bool) = refl
number_is (shaped whole) = refl
number_is (shaped decimal) = refl
number_is (shaped text) = refl
number_is (shaped (list shape most)) = refl
number_is (shaped (object inside)) = refl
number_is (shaped (optional shape)) = refl

pub number_is_either : (kind : Kind) (first second : Bool) → first ≡ is_scalar_kind scalars.Whole kind → second ≡ is_scalar_kind scalars.Decimal kind → is_number kind ≡ (first || second)
number_is_either kind first second is_whole is_decimal = rw (is_whole, is_decimal) (number_is kind)
