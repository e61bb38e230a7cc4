-- What is read under a shape fits it.
use Rattle.std.proofs.Common.{◌≡◌, ℕ, suc, ℤ, Bool, true, false, nat_le, if◌then◌else◌, List, Option, Some, None, Result, Ok, Err, IfOk, refl, ap}
use Rattle.std.specs.Prelude.{◌&&◌}
use Rattle.std.specs.Str.{bytes_eq}
use Rattle.std.proofs.lemmas.Slice.Eq.{bytes_eq-Decides}
use Rattle.serde_json.specs.Data as json
use Rattle.serde_json.specs.Data.{Data}
use Rattle.serde_json.specs.Find.{as_integer, get_member}
use Rattle.ar_value.specs.Answer.{◌>>=◌, Gives}
use Rattle.ar_value.specs.Decimal.{is_i64}
use Rattle.ar_value.specs.DecimalText.{decimal_of}
use Rattle.ar_value.specs.Fits.{all_items, fields_fit, fits}
use Rattle.ar_json.specs.Reading.{read, read_whole, whole_as_millionths, decimal_of_text, item_count, items_read, absent_read, field_read, fields_read, is_memory_under}
use Rattle.ar_value.specs.Shape.{Shape, FieldShapes}
use Rattle.ar_value.specs.Shape as shapes
use Rattle.ar_value.specs.Value.{Value, Items, Fields, count}
use Rattle.ar_value.specs.Value as values
use Rattle.ar_value.specs.View.{value_view}
use Rattle.ar_value.specs.declared.decimal.NumberFault.{NumberFault}
use Rattle.ar_value.specs.declared.decimal.NumberFault.TheVariants.{BadDecimal, NotFinite, OutOfRange}
use Rattle.ar_value.specs.declared.value.Value.{Value as ValueCode}
use Rattle.ar_json.specs.declared.value_reading.ShapeFault.{ShapeFault}
use Rattle.ar_json.specs.declared.value_reading.ShapeFault.TheVariants as fault

abbrev Ok_fits : Shape → Result Value ShapeFault → Type 0
Ok_fits shape r = IfOk r (λ value. fits value shape ≡ true)

pub binds : {A B : Type 0} (P : A → Type 0) (Q : B → Type 0) (r : Result A ShapeFault) (f : A → Result B ShapeFault) → IfOk r P → ((x : A) → P x → IfOk (f x) Q) → IfOk (r >>= f) Q
binds P Q (Ok x) f p step = step x p
binds P Q (Err e) f p step = p

both : (a b : Bool) → a ≡ true → b ≡ true → (a && b) ≡ true
both true b p q = q
both false b p q = p

whole_within : (b : Bool) (z : ℤ) → Ok_fits shapes.whole (if b then Ok (values.whole z) else Err fault.OutOfRange)
whole_within true z = refl
whole_within false z = tt

decimal_within : (b : Bool) (z : ℤ) → Ok_fits shapes.decimal (if b then Ok (values.decimal z) else Err fault.OutOfRange)
decimal_within true z = refl
decimal_within false z = tt

whole_fits : (number : Option ℤ) → Ok_fits shapes.whole (read_whole number)
whole_fits None = tt
whole_fits (Some z) = whole_within (is_i64 z) z

decimal_fits : (number : Option ℤ) → Ok_fits shapes.decimal (whole_as_millionths number)
decimal_fits None = tt
decimal_fits (Some z) = decimal_within _ _

text_fits : (r : Result ℤ NumberFault) → Ok_fits shapes.decimal (decimal_of_text r)
text_fits (Ok z) = refl
text_fits (Err BadDecimal) = tt
text_fits (Err NotFinite) = tt
text_fits (Err OutOfRange) = tt

-- as many items are read as are there, and each fits
items_fit : (shape : Shape) (R : Data → Result Value ShapeFault) → ((d : Data) → Ok_fits shape (R d)) → (items : json.Items)
    → IfOk (items_read R items) (λ vs. (count vs ≡ item_count items) × (all_items (λ v. fits v shape) vs ≡ true))
items_fit shape R each json.no_items = (refl, refl)
items_fit shape R each (json.item d ds) =
    binds _ _ (R d) (λ v. items_read R ds >>= λ vs. Ok (values.item v vs)) (each d)
    (λ v fit. binds _ _ (items_read R ds) (λ vs. Ok (values.item v vs)) (items_fit shape R each ds)
    (λ vs rest. (ap suc rest.0, both (fits v shape) (all_items (λ v. fits v shape) vs) fit rest.1)))

list_fits : (shape : Shape) (R : Data → Result Value ShapeFault) → ((d : Data) → Ok_fits shape (R d)) → (max : ℕ) (items : json.Items) (short : Bool) → nat_le (item_count items) max ≡ short
    → Ok_fits (shapes.list shape max) (if short then (items_read R items >>= λ vs. Ok (values.list vs)) else Err fault.ListTooLong)
list_fits shape R each max items false is = tt
list_fits shape R each max items true is =
    binds _ _ (items_read R items) (λ vs. Ok (values.list vs)) (items_fit shape R each items)
    (λ vs all. both (nat_le (count vs) max) (all_items (λ v. fits v shape) vs) (rw all.0 is) all.1)

optional_fits : (shape : Shape) (v : Value) → fits v shape ≡ true → fits v (shapes.optional shape) ≡ true
optional_fits shape values.nil h = refl
optional_fits shape v h = h

optional_read : (shape : Shape) (r : Result Value ShapeFault) → Ok_fits shape r → Ok_fits (shapes.optional shape) r
optional_read shape (Ok v) h = optional_fits shape v h
optional_read shape (Err e) h = h

absent_fits : (shape : Shape) → Ok_fits shape (absent_read shape)
absent_fits (shapes.optional shape) = refl
absent_fits shape = tt

field_fits : (shape : Shape) (R : Data → Result Value ShapeFault) → ((d : Data) → Ok_fits shape (R d)) → (o : Option Data) → Ok_fits shape (field_read R shape o)
field_fits shape R each None = absent_fits shape
field_fits shape R each (Some d) = each d

same_name : (name : List ℕ) → bytes_eq name name ≡ true
same_name name = (bytes_eq-Decides name name).1 refl

mutual
  pub read_fits : (shape : Shape) (d : Data) → Ok_fits shape (read shape d)
  read_fits shapes.bool (json.boolean b) = refl
  read_fits shapes.whole (json.number n) = whole_fits (as_integer n)
  read_fits shapes.decimal (json.number n) = decimal_fits (as_integer n)
  read_fits shapes.decimal (json.string bytes) = text_fits (decimal_of bytes)
  read_fits shapes.text (json.string bytes) = refl
  read_fits (shapes.list shape max) (json.array items) = list_fits shape (λ d. read shape d) (λ d. read_fits shape d) max items (nat_le (item_count items) max) refl
  read_fits (shapes.object wanted) (json.object given) = binds _ _ (fields_read wanted given) (λ fields. Ok (values.object fields)) (fields_read_fit wanted given) (λ fields fit. fit)
  read_fits (shapes.optional shape) json.null = refl
  read_fits (shapes.optional shape) d = optional_read shape (read shape d) (read_fits shape d)
  read_fits shape d = tt

  fields_read_fit : (wanted : FieldShapes) (given : json.Members) → IfOk (fields_read wanted given) (λ fields. fields_fit fields wanted ≡ true)
  fields_read_fit shapes.no_fields given = refl
  fields_read_fit (shapes.field name shape others) given =
      binds _ _ (field_read (λ d. read shape d) shape (get_member name given)) (λ v. fields_read others given >>= λ fields. Ok (values.field name v fields))
      (field_fits shape (λ d. read shape d) (λ d. read_fits shape d) (get_member name given))
      (λ v fit. binds _ _ (fields_read others given) (λ fields. Ok (values.field name v fields)) (fields_read_fit others given)
      (λ fields rest. both (bytes_eq name name && fits v shape) (fields_fit fields others) (both (bytes_eq name name) (fits v shape) (same_name name) fit) rest))

-- what a function gave fits, where it gives what is read
pub gives_fits : (r : Result ValueCode ShapeFault) (shape : Shape) (d : Data) → Gives (is_memory_under shape) value_view r (read shape d) → IfOk r (λ v. fits (value_view v) shape ≡ true)
gives_fits (Ok v) shape d h = let fit : Ok_fits shape (read shape d) = read_fits shape d in rw h at fit
gives_fits (Err e) shape d h = tt

pub read_value_fits : (shape : Shape) (d : Data) (v : Value) → read shape d ≡ Ok v → fits v shape ≡ true
read_value_fits shape d v h = let fit : Ok_fits shape (read shape d) = read_fits shape d in rw h at fit
