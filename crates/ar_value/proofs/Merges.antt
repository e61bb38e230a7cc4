-- Laws of merged kinds.
use Rattle.std.proofs.Common.{◌≡◌, ℕ, max, Bool, true, false, nat_le, if◌then◌else◌, List, Option, Some, None, option_map, IfSome, refl, sym, ◌∙◌, ap, ap₂, arith}
use Rattle.std.specs.Prelude.{◌&&◌, ◌||◌}
use Rattle.std.specs.Str.{bytes_eq}
use Rattle.std.proofs.lemmas.Bool.Decides.{nat_tests}
use Rattle.std.proofs.lemmas.Slice.Eq.{bytes_eq-Decides}
use Rattle.ar_value.specs.Fits.{all_items, fields_fit, fits}
use Rattle.ar_value.specs.Kind.{Kind, common, fits_kind, is_optional, joined_field, merge, merge_shapes, or_nil, plain, converted_next_to, widest, widest_fields}
use Rattle.ar_value.specs.Kind as kinds
use Rattle.ar_value.specs.Shape.{Shape, FieldShapes, bool, whole, decimal, text, list, object, optional, no_fields, field}
use Rattle.ar_value.specs.Value.{Value, Items, Fields, count}
use Rattle.ar_value.specs.Value as values

same_name : (name : List ℕ) → bytes_eq name name ≡ true
same_name name = (bytes_eq-Decides name name).1 refl

max_self : (n : ℕ) → max n n ≡ n
max_self n = omega arith

max_either : (m n : ℕ) → max m n ≡ max n m
max_either m n = omega arith

mutual
  widest_self : (shape : Shape) → widest shape shape ≡ Some shape
  widest_self bool = refl
  widest_self whole = refl
  widest_self decimal = refl
  widest_self text = refl
  widest_self (list shape max) = rw (widest_self shape, max_self max) refl
  widest_self (object fields) = rw (fields_self fields) refl
  widest_self (optional shape) = rw (widest_self shape) refl

  fields_self : (fields : FieldShapes) → widest_fields fields fields ≡ Some fields
  fields_self no_fields = refl
  fields_self (field name shape others) = rw (same_name name, widest_self shape, fields_self others) refl

pub merge_with_itself : (kind : Kind) → merge kind kind ≡ Some kind
merge_with_itself kinds.nil = refl
merge_with_itself (kinds.shaped bool) = refl
merge_with_itself (kinds.shaped whole) = refl
merge_with_itself (kinds.shaped decimal) = refl
merge_with_itself (kinds.shaped text) = refl
merge_with_itself (kinds.shaped (list shape max)) = rw (widest_self shape, max_self max) refl
merge_with_itself (kinds.shaped (object fields)) = rw (fields_self fields) refl
merge_with_itself (kinds.shaped (optional shape)) = rw (widest_self shape) refl

-- the kind that two shapes have in common, by the shapes that each is converted to next to the other
pub common_of_shapes : (left right one other : Shape) → kinds.shaped one ≡ converted_next_to (kinds.shaped right) (kinds.shaped left)
    → kinds.shaped other ≡ converted_next_to (kinds.shaped left) (kinds.shaped right)
    → option_map kinds.shaped (merge_shapes one other) ≡ common (kinds.shaped left) (kinds.shaped right)
common_of_shapes left right one other first second = ap₂ merge first second

pub common_with_itself : (kind : Kind) → common kind kind ≡ Some kind
common_with_itself kinds.nil = refl
common_with_itself (kinds.shaped bool) = refl
common_with_itself (kinds.shaped whole) = refl
common_with_itself (kinds.shaped decimal) = refl
common_with_itself (kinds.shaped text) = refl
common_with_itself (kinds.shaped (list shape max)) = merge_with_itself (kinds.shaped (list shape max))
common_with_itself (kinds.shaped (object fields)) = merge_with_itself (kinds.shaped (object fields))
common_with_itself (kinds.shaped (optional bool)) = refl
common_with_itself (kinds.shaped (optional whole)) = refl
common_with_itself (kinds.shaped (optional decimal)) = refl
common_with_itself (kinds.shaped (optional text)) = refl
common_with_itself (kinds.shaped (optional (list shape max))) = merge_with_itself (kinds.shaped (optional (list shape max)))
common_with_itself (kinds.shaped (optional (object fields))) = merge_with_itself (kinds.shaped (optional (object fields)))
common_with_itself (kinds.shaped (optional (optional shape))) = merge_with_itself (kinds.shaped (optional (optional shape)))

name_either : (b c : Bool) (n m : List ℕ) → bytes_eq n m ≡ b → bytes_eq m n ≡ c → (shape : Option Shape) (fields : Option FieldShapes)
    → joined_field b n shape fields ≡ joined_field c m shape fields
name_either true c n m is_b is_c shape fields =
    let same : n ≡ m = (bytes_eq-Decides n m).0 is_b in
    let both : c ≡ true = sym is_c ∙ (bytes_eq-Decides m n).1 (sym same) in
    rw (both, same) refl
name_either false true n m is_b is_c shape fields =
    let same : m ≡ n = (bytes_eq-Decides m n).0 is_c in
    let both : false ≡ true = sym is_b ∙ (bytes_eq-Decides n m).1 (sym same) in
    absurd (cc)
name_either false false n m is_b is_c shape fields = refl

mutual
  widest_either : (left right : Shape) → widest left right ≡ widest right left
  widest_either bool bool = refl
  widest_either whole whole = refl
  widest_either decimal decimal = refl
  widest_either text text = refl
  widest_either (list left m) (list right n) = rw (widest_either left right, max_either m n) refl
  widest_either (object left) (object right) = rw (fields_either left right) refl
  widest_either (optional left) (optional right) = rw (widest_either left right) refl
  widest_either left right = refl

  fields_either : (left right : FieldShapes) → widest_fields left right ≡ widest_fields right left
  fields_either no_fields no_fields = refl
  fields_either (field n left lefts) (field m right rights) =
      rw (widest_either left right, fields_either lefts rights) (name_either (bytes_eq n m) (bytes_eq m n) n m refl refl (widest right left) (widest_fields rights lefts))
  fields_either left right = refl

or_either : (a b : Bool) → (a || b) ≡ (b || a)
or_either true true = refl
or_either true false = refl
or_either false true = refl
or_either false false = refl

shapes_either : (left right : Shape) → merge_shapes left right ≡ merge_shapes right left
shapes_either left right = rw (or_either (is_optional left) (is_optional right), widest_either left right, widest_either (plain left) (plain right)) refl

pub merge_either_way : (left right : Kind) → merge left right ≡ merge right left
merge_either_way kinds.nil kinds.nil = refl
merge_either_way kinds.nil (kinds.shaped right) = refl
merge_either_way (kinds.shaped left) kinds.nil = refl
merge_either_way (kinds.shaped left) (kinds.shaped right) = ap (option_map kinds.shaped) (shapes_either left right)

-- a shape that what fits another fits, where there is one
abbrev Widens : Shape → Option Shape → Type 0
Widens shape wider = IfSome wider (λ w. (v : Value) → fits v shape ≡ true → fits v w ≡ true)

abbrev WidensFields : FieldShapes → Option FieldShapes → Type 0
WidensFields fields wider = IfSome wider (λ w. (given : Fields) → fields_fit given fields ≡ true → fields_fit given w ≡ true)

both_hold : (a b : Bool) → (a && b) ≡ true → (a ≡ true) × (b ≡ true)
both_hold true b h = (refl, h)
both_hold false b h = absurd (cc)

both : (a b : Bool) → a ≡ true → b ≡ true → (a && b) ≡ true
both true b p q = q
both false b p q = p

all_more : (p q : Value → Bool) → ((v : Value) → p v ≡ true → q v ≡ true) → (items : Items) → all_items p items ≡ true → all_items q items ≡ true
all_more p q more values.no_items h = refl
all_more p q more (values.item v items) h =
    let parts = both_hold (p v) (all_items p items) h in
    both (q v) (all_items q items) (more v parts.0) (all_more p q more items parts.1)

le_max : (n a b : ℕ) → nat_le n a ≡ true → nat_le n (max a b) ≡ true
le_max n a b h = grind (arith, nat_tests)

list_more : (shape wider : Shape) (m n : ℕ) → ((v : Value) → fits v shape ≡ true → fits v wider ≡ true) → (v : Value) → fits v (list shape m) ≡ true → fits v (list wider (max m n)) ≡ true
list_more shape wider m n more (values.list items) h =
    let parts = both_hold (nat_le (count items) m) (all_items (λ v. fits v shape) items) h in
    both (nat_le (count items) (max m n)) (all_items (λ v. fits v wider) items) (le_max (count items) m n parts.0) (all_more (λ v. fits v shape) (λ v. fits v wider) more items parts.1)
list_more shape wider m n more v h = absurd (cc)

object_more : (fields wider : FieldShapes) → ((given : Fields) → fields_fit given fields ≡ true → fields_fit given wider ≡ true) → (v : Value) → fits v (object fields) ≡ true → fits v (object wider) ≡ true
object_more wanted wider more (values.object given) h = more given h
object_more wanted wider more v h = absurd (cc)

optional_more : (shape wider : Shape) → ((v : Value) → fits v shape ≡ true → fits v wider ≡ true) → (v : Value) → fits v (optional shape) ≡ true → fits v (optional wider) ≡ true
optional_more shape wider more values.nil h = refl
optional_more shape wider more v h = more v h

field_more : (name : List ℕ) (shape wider : Shape) (others more_others : FieldShapes)
    → ((v : Value) → fits v shape ≡ true → fits v wider ≡ true) → ((given : Fields) → fields_fit given others ≡ true → fields_fit given more_others ≡ true)
    → (given : Fields) → fields_fit given (field name shape others) ≡ true → fields_fit given (field name wider more_others) ≡ true
field_more name shape wider others more_others more rest values.no_fields h = absurd (cc)
field_more name shape wider others more_others more rest (values.field n v given) h =
    let parts = both_hold (bytes_eq n name && fits v shape) (fields_fit given others) h in
    let front = both_hold (bytes_eq n name) (fits v shape) parts.0 in
    both (bytes_eq n name && fits v wider) (fields_fit given more_others) (both (bytes_eq n name) (fits v wider) front.0 (more v front.1)) (rest given parts.1)

list_widens : (shape : Shape) (m n : ℕ) (wider : Option Shape) → Widens shape wider → Widens (list shape m) (option_map (λ w. list w (max m n)) wider)
list_widens shape m n None h = tt
list_widens shape m n (Some wider) h = list_more shape wider m n h

object_widens : (fields : FieldShapes) (wider : Option FieldShapes) → WidensFields fields wider → Widens (object fields) (option_map object wider)
object_widens wanted None h = tt
object_widens wanted (Some wider) h = object_more wanted wider h

optional_widens : (shape : Shape) (wider : Option Shape) → Widens shape wider → Widens (optional shape) (option_map optional wider)
optional_widens shape None h = tt
optional_widens shape (Some wider) h = optional_more shape wider h

field_widens : (same : Bool) (name : List ℕ) (shape : Shape) (others : FieldShapes) (wider : Option Shape) (more_others : Option FieldShapes)
    → Widens shape wider → WidensFields others more_others → WidensFields (field name shape others) (joined_field same name wider more_others)
field_widens true name shape others (Some wider) (Some more_others) h k = field_more name shape wider others more_others h k
field_widens true name shape others (Some wider) None h k = tt
field_widens true name shape others None more_others h k = tt
field_widens false name shape others wider more_others h k = tt

mutual
  widest_widens : (left right : Shape) → Widens left (widest left right)
  widest_widens bool bool = λ v h. h
  widest_widens whole whole = λ v h. h
  widest_widens decimal decimal = λ v h. h
  widest_widens text text = λ v h. h
  widest_widens (list left m) (list right n) = list_widens left m n (widest left right) (widest_widens left right)
  widest_widens (object left) (object right) = object_widens left (widest_fields left right) (fields_widen left right)
  widest_widens (optional left) (optional right) = optional_widens left (widest left right) (widest_widens left right)
  widest_widens left right = tt

  fields_widen : (left right : FieldShapes) → WidensFields left (widest_fields left right)
  fields_widen no_fields no_fields = λ given h. h
  fields_widen (field n left lefts) (field m right rights) =
      field_widens (bytes_eq n m) n left lefts (widest left right) (widest_fields lefts rights) (widest_widens left right) (fields_widen lefts rights)
  fields_widen left right = tt

fits_optional : (v : Value) (shape : Shape) → fits v shape ≡ true → fits v (optional shape) ≡ true
fits_optional values.nil shape h = refl
fits_optional v shape h = h

fits_or_nil : (v : Value) (shape : Shape) → fits v shape ≡ true → fits v (or_nil shape) ≡ true
fits_or_nil v (optional shape) h = h
fits_or_nil v shape h = fits_optional v shape h

plain_widens : (left : Shape) (wider : Option Shape) → Widens (plain left) wider → Widens left (option_map optional wider)
plain_widens left None h = tt
plain_widens left (Some wider) h = λ v fit. optional_more (plain left) wider h v (fits_or_nil v left fit)

shapes_widen : (b : Bool) (left right : Shape) → Widens left (if b then option_map optional (widest (plain left) (plain right)) else widest left right)
shapes_widen true left right = plain_widens left (widest (plain left) (plain right)) (widest_widens (plain left) (plain right))
shapes_widen false left right = widest_widens left right

kind_widens : (left : Shape) (wider : Option Shape) → Widens left wider → IfSome (option_map kinds.shaped wider) (λ merged. (v : Value) → fits_kind v (kinds.shaped left) ≡ true → fits_kind v merged ≡ true)
kind_widens left None h = tt
kind_widens left (Some wider) h = h

nil_widens : (shape : Shape) (v : Value) → fits_kind v kinds.nil ≡ true → fits v (or_nil shape) ≡ true
nil_widens shape values.nil h = refl
nil_widens shape v h = absurd (cc)

merge_has_left : (left right : Kind) → IfSome (merge left right) (λ merged. (v : Value) → fits_kind v left ≡ true → fits_kind v merged ≡ true)
merge_has_left kinds.nil kinds.nil = λ v h. h
merge_has_left kinds.nil (kinds.shaped right) = λ v h. nil_widens right v h
merge_has_left (kinds.shaped left) kinds.nil = λ v h. fits_or_nil v left h
merge_has_left (kinds.shaped left) (kinds.shaped right) = kind_widens left (merge_shapes left right) (shapes_widen (is_optional left || is_optional right) left right)

has : (left right merged : Kind) → merge left right ≡ Some merged → (v : Value) → fits_kind v left ≡ true → fits_kind v merged ≡ true
has left right merged is =
    let h : IfSome (merge left right) (λ merged. (v : Value) → fits_kind v left ≡ true → fits_kind v merged ≡ true) = merge_has_left left right in
    rw is at h

one_holds : (a b : Bool) (P : Type 0) → (a ≡ true → P) → (b ≡ true → P) → (a || b) ≡ true → P
one_holds true b P f g h = f refl
one_holds false b P f g h = g h

pub merge_has_both : (left right merged : Kind) (v : Value) → merge left right ≡ Some merged → (fits_kind v left || fits_kind v right) ≡ true → fits_kind v merged ≡ true
merge_has_both left right merged v is either =
    one_holds (fits_kind v left) (fits_kind v right) (fits_kind v merged ≡ true) (has left right merged is v) (has right left merged (merge_either_way right left ∙ is) v) either
