-- Fields, items and lengths mean their kinds, and so does membership.
use Rattle.std.proofs.Common.{◌≡◌, ℕ, ℤ, pos, negsuc, Bool, true, false, List, Option, Some, None, IfOk, refl, subst}
use Rattle.std.specs.Prelude.{◌-◌, suc, zero, if◌then◌else◌, nat_lt, option_and_then, ◌||◌}
use Rattle.ar_value.specs.declared.operator.Scalar.TheVariants as scalars
use Rattle.ar_value.specs.declared.operator.Family.TheVariants as families
use Rattle.ar_value.specs.declared.operator.Family.{Family}
use Rattle.ar_value.specs.declared.operator.BinaryOperator.TheVariants as binary
use Rattle.ar_value.specs.declared.operator.UnaryOperator.TheVariants as unary
use Rattle.ar_value.specs.Answer.{◌>>=◌, there_or}
use Rattle.ar_value.specs.Fits.{all_items, fits}
use Rattle.ar_value.specs.Kind.{Kind, nil, shaped, plain, fits_kind, boolean_kind}
use Rattle.ar_value.specs.Shape.{Shape, FieldShapes}
use Rattle.ar_value.specs.Shape as shapes
use Rattle.ar_value.specs.Value.{Value, Items, Fields, count, value_named}
use Rattle.ar_value.specs.Value as values
use Rattle.ar_value.specs.declared.fault.Fault.TheVariants.{IndexOutOfRange}
use Rattle.ar_check.specs.Check.{field_of, field_shape, found_field, given, in_of, index_of, is_whole_number, item_shape, len_of, member_of, plain_kind}
use Rattle.ar_value.specs.Shape.{shape_named}
use Rattle.ar_value.specs.Operators.{Failure, Meaning, same_family}
use Rattle.ar_tree.specs.Meaning.{mean}
use Rattle.ar_value.specs.Operators as operators
use Rattle.ar_check.specs.Operand.{Operand, scalar_family, unwrapped, plain_of, scalar, scalar_of}
use Rattle.ar_tree.specs.Typed.{Typed}
use Rattle.ar_tree.specs.Typed as typed
use Rattle.ar_value.specs.declared.operator.Scalar.{Scalar}
use Rattle.ar_check.proofs.Means.{MeansKind, Sound, IsThere, IsBoolean, boolean_wanted, answers, means_then, both_hold, wanted, both}
use Rattle.ar_check.proofs.Operands.{is_index, is_plain, named_fits, on_list, on_object, on_whole, there_fits}

-- ---- items

-- the plain kind of a list, whose items have a shape
abbrev pub ListOf : Kind → Shape → Type 0
ListOf kind shape = (max : ℕ) × (plain_kind kind ≡ shaped (shapes.list shape max))

-- a shape that has items is a list's
items_of_shape : (at : ℕ) (of : Shape) → IfOk (item_shape at (Some of)) (λ shape. (max : ℕ) × (shaped of ≡ shaped (shapes.list shape max)))
items_of_shape at (shapes.list shape max) = (max, refl)
items_of_shape at shapes.bool = tt
items_of_shape at shapes.whole = tt
items_of_shape at shapes.decimal = tt
items_of_shape at shapes.text = tt
items_of_shape at (shapes.object named) = tt
items_of_shape at (shapes.optional shape) = tt

-- a kind whose plain shape has items is a list's
pub is_list : (at : ℕ) (kind : Kind) → IfOk (item_shape at (plain_of kind)) (ListOf kind)
is_list at nil = tt
is_list at (shaped shape) = items_of_shape at (plain shape)

-- an item by its number fits, where there is one
nth_fits : (shape : Shape) (items : Items) (n : ℕ) → all_items (λ v. fits v shape) items ≡ true → MeansKind (shaped shape) (there_or (operators.faulted IndexOutOfRange) (operators.nth_item items n))
nth_fits shape values.no_items n h = tt
nth_fits shape (values.item v items) zero h = (both_hold (fits v shape) (all_items (λ v. fits v shape) items) h).0
nth_fits shape (values.item v items) (suc n) h = nth_fits shape items n (both_hold (fits v shape) (all_items (λ v. fits v shape) items) h).1

-- likewise counted from the end
from_end : (shape : Shape) (items : Items) (n : ℕ) (within : Bool) → all_items (λ v. fits v shape) items ≡ true
    → MeansKind (shaped shape) (there_or (operators.faulted IndexOutOfRange) (if within then operators.nth_item items (count items - suc n) else None))
from_end shape items n true h = nth_fits shape items (count items - suc n) h
from_end shape items n false h = tt

-- an item at an index fits, where there is one
item_fits : (shape : Shape) (items : Items) (index : ℤ) → all_items (λ v. fits v shape) items ≡ true
    → MeansKind (shaped shape) (there_or (operators.faulted IndexOutOfRange) (operators.item_at items index))
item_fits shape items (pos n) h = nth_fits shape items n h
item_fits shape items (negsuc n) h = from_end shape items n (nat_lt n (count items)) h

-- ---- families

-- nil, or a scalar of a family
in_family_by : (shape : Shape) (found : Scalar) (v : Value) → scalar_of shape ≡ Some found → fits v shape ≡ true → operators.is_in_family (scalar_family found) v ≡ true
in_family_by shapes.bool scalars.Bool (values.bool b) is fit = refl
in_family_by shapes.whole scalars.Whole (values.whole w) is fit = refl
in_family_by shapes.decimal scalars.Decimal (values.decimal d) is fit = refl
in_family_by shapes.text scalars.Text (values.text t) is fit = refl
in_family_by shape found values.nil is fit = refl
in_family_by shape found v is fit = absurd cc

in_family : (shape : Shape) (found : Scalar) (v : Value) → scalar_of (plain shape) ≡ Some found → fits v shape ≡ true → operators.is_in_family (scalar_family found) v ≡ true
in_family (shapes.optional shape) found values.nil is fit = refl
in_family (shapes.optional shape) found v is fit = in_family_by shape found v is fit
in_family shape found v is fit = in_family_by shape found v is fit

pub kind_in_family : (kind : Kind) (found : Scalar) → option_and_then scalar_of (plain_of kind) ≡ Some found → (v : Value) → fits_kind v kind ≡ true → operators.is_in_family (scalar_family found) v ≡ true
kind_in_family nil found is v fit = absurd cc
kind_in_family (shaped shape) found is v fit = in_family shape found v is fit

all_in_family : (family : Family) (shape : Shape) (items : Items) → ((v : Value) → fits v shape ≡ true → operators.is_in_family family v ≡ true) → all_items (λ v. fits v shape) items ≡ true
    → operators.are_in_family family items ≡ true
all_in_family family shape values.no_items each fit = refl
all_in_family family shape (values.item v items) each fit =
    let parts = both_hold (fits v shape) (all_items (λ v. fits v shape) items) fit in
    both (operators.is_in_family family v) (operators.are_in_family family items) (each v parts.0) (all_in_family family shape items each parts.1)

middle : (a b c : Bool) → b ≡ true → (a || b || c) ≡ true
middle true b c h = refl
middle false b c h = rw h refl

last : (a b c : Bool) → c ≡ true → (a || b || c) ≡ true
last true b c h = refl
last false true c h = refl
last false false c h = h

of_family : (family : Family) (value : Value) (items : Items) → operators.are_in_family family (values.item value items) ≡ true → operators.of_one_family value items ≡ true
of_family families.Boolean value items h = rw h refl
of_family families.Number value items h =
    middle (operators.are_in_family families.Boolean (values.item value items)) (operators.are_in_family families.Number (values.item value items)) (operators.are_in_family families.Text (values.item value items)) h
of_family families.Text value items h =
    last (operators.are_in_family families.Boolean (values.item value items)) (operators.are_in_family families.Number (values.item value items)) (operators.are_in_family families.Text (values.item value items)) h

pub kinded_means : (is_kinded : Bool) (b : Bool) → is_kinded ≡ true → MeansKind boolean_kind (operators.where_kinded is_kinded (values.bool b))
kinded_means true b h = refl
kinded_means false b h = absurd cc

-- scalars of one family
pub one_family : (left right : Scalar) → same_family (scalar_family left) (scalar_family right) ≡ true → scalar_family right ≡ scalar_family left
one_family scalars.Bool scalars.Bool is = refl
one_family scalars.Whole scalars.Whole is = refl
one_family scalars.Whole scalars.Decimal is = refl
one_family scalars.Decimal scalars.Whole is = refl
one_family scalars.Decimal scalars.Decimal is = refl
one_family scalars.Text scalars.Text is = refl
one_family left right is = absurd cc

module _ (result : Value) (here : Option Value) where
  -- an item at an index means the shape of items
  pub index_means : (shape : Shape) (max : ℕ) (list position : Typed) → MeansKind (shaped (shapes.list shape max)) (mean result here list) → MeansKind (shaped shapes.whole) (mean result here position)
      → MeansKind (shaped shape) (mean result here (typed.binary binary.Index list position))
  index_means shape max list position h k =
      means_then _ _ (mean result here list) (λ v. mean result here position >>= λ i. operators.index_in v i) h
      (λ v fit. means_then _ _ (mean result here position) (λ i. operators.index_in v i) k
      (λ i whole. on_list (λ v. MeansKind (shaped shape) (operators.index_in v i)) shape max
      (λ items short all. on_whole (λ i. MeansKind (shaped shape) (operators.index_in (values.list items) i)) (λ w. item_fits shape items w all) i whole) v fit))

  -- a list, unwrapped
  pub plain_list : (list : Operand) (shape : Shape) → (of : ListOf list.kind shape) → Sound result here list → MeansKind (shaped (shapes.list shape of.0)) (mean result here (unwrapped list))
  plain_list list shape of h =
      let plain : MeansKind (plain_kind list.kind) (mean result here (unwrapped list)) = is_plain result here list h in
      rw of.1 at plain

  -- an index means its kind
  pub index_sound : (at : ℕ) (list index : Operand) → Sound result here list → Sound result here index → IfOk (index_of at list index) (Sound result here)
  index_sound at list index h k =
      answers _ _ (item_shape at (plain_of list.kind)) _ (is_list at list.kind)
      (λ shape of. wanted result here at (is_whole_number (scalar index)) (typed.binary binary.Index (unwrapped list) (unwrapped index)) (shaped shape)
      (λ is. index_means shape of.0 (unwrapped list) (unwrapped index) (plain_list list shape of h) (is_index result here index k is)))

  -- a length is a whole
  pub len_means : (shape : Shape) (max : ℕ) (list : Typed) → MeansKind (shaped (shapes.list shape max)) (mean result here list) → MeansKind (shaped shapes.whole) (mean result here (typed.unary unary.Len list))
  len_means shape max list h =
      means_then _ _ (mean result here list) operators.length_meaning h (λ v fit. on_list (λ v. MeansKind (shaped shapes.whole) (operators.length_meaning v)) shape max (λ items short all. refl) v fit)

  -- a length means its kind
  pub len_sound : (at : ℕ) (list : Operand) → Sound result here list → IfOk (len_of at list) (Sound result here)
  len_sound at list h =
      answers _ _ (item_shape at (plain_of list.kind)) _ (is_list at list.kind) (λ shape of. len_means shape of.0 (unwrapped list) (plain_list list shape of h))

  -- ---- membership

  -- membership in a list of scalars of a family is a boolean
  member_means : (family : Family) (kind : Kind) (shape : Shape) (max : ℕ) (operand list : Typed) → ((v : Value) → fits_kind v kind ≡ true → operators.is_in_family family v ≡ true)
      → ((v : Value) → fits v shape ≡ true → operators.is_in_family family v ≡ true) → MeansKind kind (mean result here operand) → MeansKind (shaped (shapes.list shape max)) (mean result here list)
      → MeansKind boolean_kind (mean result here (typed.binary binary.IsIn operand list))
  member_means family kind shape max operand list in_operand in_items h k =
      means_then _ _ (mean result here operand) (λ value. mean result here list >>= λ v. operators.is_among value v) h
      (λ value fit. means_then _ _ (mean result here list) (λ v. operators.is_among value v) k
      (λ v is. on_list (λ v. MeansKind boolean_kind (operators.is_among value v)) shape max
      (λ items short all. kinded_means (operators.of_one_family value items) (operators.has_item value items)
      (of_family family value items (both (operators.is_in_family family value) (operators.are_in_family family items) (in_operand value fit) (all_in_family family shape items in_items all)))) v is))

  -- membership of scalars of one family is a boolean
  member_sound : (at : ℕ) (m n : Option Scalar) (left : Operand) (list : Typed) (shape : Shape) (max : ℕ) → scalar left ≡ m → scalar_of (plain shape) ≡ n → Sound result here left
      → MeansKind (shaped (shapes.list shape max)) (mean result here list) → IfOk (member_of at m n left.tree list) (IsBoolean result here)
  member_sound at (Some m) (Some n) left list shape max of_m of_n h k =
      boolean_wanted result here at (same_family (scalar_family m) (scalar_family n)) (typed.binary binary.IsIn left.tree list)
      (λ is. member_means (scalar_family m) left.kind shape max left.tree list (kind_in_family left.kind m of_m)
      (λ v fit. subst (λ family. operators.is_in_family family v ≡ true) (one_family m n is) (in_family shape n v of_n fit)) h k)
  member_sound at (Some m) None left list shape max of_m of_n h k = tt
  member_sound at None n left list shape max of_m of_n h k = tt

  -- `in` means its kind
  pub in_sound : (at : ℕ) (left right : Operand) → Sound result here left → Sound result here right → IfOk (in_of at left right) (IsBoolean result here)
  in_sound at left right h k =
      answers _ _ (item_shape at (plain_of right.kind)) (λ shape. member_of at (scalar left) (scalar_of (plain shape)) left.tree (unwrapped right)) (is_list at right.kind)
      (λ shape of. member_sound at (scalar left) (scalar_of (plain shape)) left (unwrapped right) shape of.0 refl refl h (plain_list right shape of k))

  -- ---- fields

  -- a field that a record's shape has means its shape
  pub field_means : (fields : FieldShapes) (shape : Shape) (whole : Typed) (name : List ℕ) → shape_named name fields ≡ Some shape → MeansKind (shaped (shapes.object fields)) (mean result here whole)
      → MeansKind (shaped shape) (mean result here (typed.field whole name))
  field_means wanted shape whole name is h =
      means_then _ _ (mean result here whole) (operators.field_in name) h
      (λ v fit. on_object (λ v. MeansKind (shaped shape) (operators.field_in name v)) wanted
      (λ given fit. let found : IsThere (shape_named name wanted) (value_named name given) = named_fits name given wanted fit in
      there_fits shape operators.ill_kinded (value_named name given) (rw is at found)) v fit)

  -- a field, where the record's shape has one of the name
  found_sound : (at : ℕ) (fields : FieldShapes) (found : Option Shape) (whole : Typed) (name : List ℕ) → shape_named name fields ≡ found → MeansKind (shaped (shapes.object fields)) (mean result here whole)
      → IfOk (found_field at found >>= λ shape. given (typed.field whole name) (shaped shape)) (Sound result here)
  found_sound at wanted (Some shape) whole name is h = field_means wanted shape whole name is h
  found_sound at wanted None whole name is h = tt

  -- a field, where the shape is a record's
  shape_sound : (at : ℕ) (shape : Shape) (whole : Typed) (name : List ℕ) → MeansKind (shaped shape) (mean result here whole)
      → IfOk (field_shape at name (Some shape) >>= λ shape. given (typed.field whole name) (shaped shape)) (Sound result here)
  shape_sound at (shapes.object wanted) whole name h = found_sound at wanted (shape_named name wanted) whole name refl h
  shape_sound at shapes.bool whole name h = tt
  shape_sound at shapes.whole whole name h = tt
  shape_sound at shapes.decimal whole name h = tt
  shape_sound at shapes.text whole name h = tt
  shape_sound at (shapes.list shape max) whole name h = tt
  shape_sound at (shapes.optional shape) whole name h = tt

  -- a field of what has a plain kind
  kind_sound : (at : ℕ) (kind : Kind) (whole : Typed) (name : List ℕ) → MeansKind (plain_kind kind) (mean result here whole)
      → IfOk (field_shape at name (plain_of kind) >>= λ shape. given (typed.field whole name) (shaped shape)) (Sound result here)
  kind_sound at nil whole name h = tt
  kind_sound at (shaped shape) whole name h = shape_sound at (plain shape) whole name h

  -- a field means its kind
  pub field_sound : (at : ℕ) (name : List ℕ) (whole : Operand) → Sound result here whole → IfOk (field_of at name whole) (Sound result here)
  field_sound at name whole h = kind_sound at whole.kind (unwrapped whole) name (is_plain result here whole h)
