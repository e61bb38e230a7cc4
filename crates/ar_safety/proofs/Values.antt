-- What operators give of values whose kinds are known: values of a kind, or faults.
use Rattle.std.proofs.Common.{◌≡◌, ℕ, zero, suc, ℤ, pos, negsuc, Bool, true, false, nat_le, Option, Some, None, Result, Ok, Err, refl}
use Rattle.std.specs.Prelude.{◌-◌, ◌&&◌, if◌then◌else◌, nat_lt, List}
use Rattle.std.specs.Str.{bytes_eq}
use Rattle.std.proofs.lemmas.Slice.Eq.{bytes_eq-Decides}
use Rattle.ar_value.specs.Answer.{there_or}
use Rattle.ar_value.specs.Fits.{all_items, fields_fit, fits}
use Rattle.ar_value.specs.Kind.{Kind, shaped, fits_kind}
use Rattle.ar_value.specs.Operators.{Failure, Meaning, faulted, ill_kinded}
use Rattle.ar_value.specs.Operators as operators
use Rattle.ar_value.specs.Shape.{Shape, FieldShapes, shape_named}
use Rattle.ar_value.specs.Shape as shapes
use Rattle.ar_value.specs.Value.{Value, Items, Fields, count, value_named}
use Rattle.ar_value.specs.Value as values
use Rattle.ar_value.specs.declared.fault.Fault.{Fault}
use Rattle.ar_value.specs.declared.fault.Fault.TheVariants.{IndexOutOfRange}

-- what is meant has a property, unless it is a fault
abbrev pub Means : {A : Type 0} → (A → Type 0) → Result A Failure → Type 0
Means P (Ok x) = P x
Means P (Err (faulted fault)) = Unit {0}
Means P (Err ill_kinded) = ⊥

-- what is meant fits a kind, unless it is a fault
abbrev pub MeansKind : Kind → Meaning → Type 0
MeansKind kind meaning = Means (λ value. fits_kind value kind ≡ true) meaning

-- where there is a shape, there is a value that fits it
abbrev pub IsThere : Option Shape → Option Value → Type 0
IsThere (Some shape) (Some value) = fits value shape ≡ true
IsThere (Some shape) None = ⊥
IsThere None value = Unit {0}

-- two tests that hold at once
pub both_hold : (a b : Bool) → (a && b) ≡ true → (a ≡ true) × (b ≡ true)
both_hold true b h = (refl, h)
both_hold false b h = absurd (cc)

pub both : (a b : Bool) → a ≡ true → b ≡ true → (a && b) ≡ true
both true b h k = k
both false b h k = absurd (cc)

-- ---- values of a shape

-- what holds of booleans holds of what fits their shape; below, likewise of other shapes
pub on_bool : (P : Value → Type 0) → ((b : Bool) → P (values.bool b)) → (v : Value) → fits v shapes.bool ≡ true → P v
on_bool P each (values.bool b) h = each b
on_bool P each v h = absurd (cc)

pub on_whole : (P : Value → Type 0) → ((w : ℤ) → P (values.whole w)) → (v : Value) → fits v shapes.whole ≡ true → P v
on_whole P each (values.whole w) h = each w
on_whole P each v h = absurd (cc)

pub on_decimal : (P : Value → Type 0) → ((d : ℤ) → P (values.decimal d)) → (v : Value) → fits v shapes.decimal ≡ true → P v
on_decimal P each (values.decimal d) h = each d
on_decimal P each v h = absurd (cc)

pub on_text : (P : Value → Type 0) → ((t : List ℕ) → P (values.text t)) → (v : Value) → fits v shapes.text ≡ true → P v
on_text P each (values.text t) h = each t
on_text P each v h = absurd (cc)

pub on_list : (P : Value → Type 0) (shape : Shape) (max : ℕ) → ((items : Items) → nat_le (count items) max ≡ true → all_items (λ v. fits v shape) items ≡ true → P (values.list items))
    → (v : Value) → fits v (shapes.list shape max) ≡ true → P v
on_list P shape max each (values.list items) h =
    let parts = both_hold (nat_le (count items) max) (all_items (λ v. fits v shape) items) h in
    each items parts.0 parts.1
on_list P shape max each v h = absurd (cc)

pub on_object : (P : Value → Type 0) (wanted : FieldShapes) → ((given : Fields) → fields_fit given wanted ≡ true → P (values.object given)) → (v : Value) → fits v (shapes.object wanted) ≡ true → P v
on_object P wanted each (values.object given) h = each given h
on_object P wanted each v h = absurd (cc)

-- ---- records

-- a first field or the others, by its name
field_fits : (test : Bool) (shape : Option Shape) (v : Option Value) (first : Shape) (value : Value) → fits value first ≡ true → IsThere shape v
    → IsThere (if test then Some first else shape) (if test then Some value else v)
field_fits true shape v first value fit rest = fit
field_fits false shape v first value fit rest = rest

-- what a name finds in a record fits what it finds in the record's shape
named_fits : (name : List ℕ) (given : Fields) (fields : FieldShapes) → fields_fit given fields ≡ true → IsThere (shape_named name fields) (value_named name given)
named_fits name values.no_fields shapes.no_fields h = tt
named_fits name values.no_fields (shapes.field of shape others) h = absurd (cc)
named_fits name (values.field n v given) shapes.no_fields h = absurd (cc)
named_fits name (values.field n v given) (shapes.field of shape others) h =
    let parts = both_hold (bytes_eq n of && fits v shape) (fields_fit given others) h in
    let front = both_hold (bytes_eq n of) (fits v shape) parts.0 in
    let same : n ≡ of = (bytes_eq-Decides n of).0 front.0 in
    rw same (field_fits (bytes_eq of name) (shape_named name others) (value_named name given) shape v front.1 (named_fits name given others parts.1))

-- what is there, else a failure
pub there_fits : (shape : Shape) (failure : Failure) (v : Option Value) → IsThere (Some shape) v → MeansKind (shaped shape) (there_or failure v)
there_fits shape failure (Some v) h = h
there_fits shape failure None h = absurd h

pub field_means : (name : List ℕ) (fields : FieldShapes) (shape : Shape) (v : Value) → shape_named name fields ≡ Some shape → fits v (shapes.object fields) ≡ true → MeansKind (shaped shape) (operators.field_in name v)
field_means name wanted shape v is fit =
    on_object (λ v. MeansKind (shaped shape) (operators.field_in name v)) wanted
    (λ given fit. let found : IsThere (shape_named name wanted) (value_named name given) = named_fits name given wanted fit in
    there_fits shape operators.ill_kinded (value_named name given) (rw is at found)) v fit

-- ---- lists

-- an item by its number fits, where there is one
nth_fits : (shape : Shape) (items : Items) (n : ℕ) → all_items (λ v. fits v shape) items ≡ true → MeansKind (shaped shape) (there_or (operators.faulted IndexOutOfRange) (operators.nth_item items n))
nth_fits shape values.no_items n h = tt
nth_fits shape (values.item v items) zero h = (both_hold (fits v shape) (all_items (λ v. fits v shape) items) h).0
nth_fits shape (values.item v items) (suc n) h = nth_fits shape items n (both_hold (fits v shape) (all_items (λ v. fits v shape) items) h).1

-- likewise counted from the end
from_end : (shape : Shape) (items : Items) (n : ℕ) (within : Bool) → all_items (λ v. fits v shape) items ≡ true
    → MeansKind (shaped shape) (there_or (operators.faulted IndexOutOfRange) (if within then operators.nth_item items (count items - suc n) else None))
from_end shape items n true h = nth_fits shape items (count items - suc n) h
from_end shape items n false h = tt

-- an item at an index fits, where there is one
item_fits : (shape : Shape) (items : Items) (index : ℤ) → all_items (λ v. fits v shape) items ≡ true
    → MeansKind (shaped shape) (there_or (operators.faulted IndexOutOfRange) (operators.item_at items index))
item_fits shape items (pos n) h = nth_fits shape items n h
item_fits shape items (negsuc n) h = from_end shape items n (nat_lt n (count items)) h

pub index_means : (shape : Shape) (max : ℕ) (v i : Value) → fits v (shapes.list shape max) ≡ true → fits i shapes.whole ≡ true → MeansKind (shaped shape) (operators.index_in v i)
index_means shape max v i fit whole =
    on_list (λ v. MeansKind (shaped shape) (operators.index_in v i)) shape max
    (λ items short all. on_whole (λ i. MeansKind (shaped shape) (operators.index_in (values.list items) i)) (λ w. item_fits shape items w all) i whole) v fit

-- ---- numbers

-- what arithmetic gives is a whole, or a fault
pub whole_or_fault : (r : Result ℤ Fault) → MeansKind (shaped shapes.whole) (operators.whole_meaning r)
whole_or_fault (Ok z) = refl
whole_or_fault (Err fault) = tt

-- likewise a decimal
pub decimal_or_fault : (r : Result ℤ Fault) → MeansKind (shaped shapes.decimal) (operators.decimal_meaning r)
decimal_or_fault (Ok z) = refl
decimal_or_fault (Err fault) = tt
