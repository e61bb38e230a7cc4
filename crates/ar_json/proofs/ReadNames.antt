-- What is read under a shape whose records have rising names has rising names.
use Rattle.std.proofs.Common.{◌≡◌, ℤ, Bool, true, false, ◌∷◌, Option, Some, None, Result, Ok, Err, IfOk, refl, sym, ap, subst}
use Rattle.std.specs.Prelude.{if◌then◌else◌, nat_le}
use Rattle.serde_json.specs.Data as json
use Rattle.serde_json.specs.Data.{Data}
use Rattle.serde_json.specs.Find.{as_integer, get_member}
use Rattle.ar_value.specs.Answer.{◌>>=◌, Gives}
use Rattle.ar_value.specs.Decimal.{is_i64}
use Rattle.ar_value.specs.DecimalText.{decimal_of}
use Rattle.ar_value.specs.Names.{Rise}
use Rattle.ar_json.specs.Names.{shape_names, field_names, ShapeNamesRise, FieldShapeNamesRise, ValueNamesRise, ItemNamesRise, FieldNamesRise}
use Rattle.ar_json.specs.Reading.{read, read_whole, whole_as_millionths, decimal_of_text, item_count, items_read, absent_read, field_read, fields_read, is_memory_under}
use Rattle.ar_value.specs.Shape.{Shape, FieldShapes}
use Rattle.ar_value.specs.Shape as shapes
use Rattle.ar_value.specs.Value.{Value, Items, Fields}
use Rattle.ar_value.specs.Value as values
use Rattle.ar_value.specs.View.{value_view}
use Rattle.ar_value.specs.declared.decimal.NumberFault.{NumberFault}
use Rattle.ar_value.specs.declared.decimal.NumberFault.TheVariants.{BadDecimal, NotFinite, OutOfRange}
use Rattle.ar_value.specs.declared.value.Value.{Value as ValueCode}
use Rattle.ar_json.specs.declared.value_reading.ShapeFault.{ShapeFault}
use Rattle.ar_json.specs.declared.value_reading.ShapeFault.TheVariants as fault
use Rattle.ar_json.proofs.ReadFits.{binds}

abbrev Rises : Result Value ShapeFault → Type 0
Rises r = IfOk r ValueNamesRise

whole_within : (b : Bool) (z : ℤ) → Rises (if b then Ok (values.whole z) else Err fault.OutOfRange)
whole_within true z = tt
whole_within false z = tt

decimal_within : (b : Bool) (z : ℤ) → Rises (if b then Ok (values.decimal z) else Err fault.OutOfRange)
decimal_within true z = tt
decimal_within false z = tt

whole_rises : (number : Option ℤ) → Rises (read_whole number)
whole_rises None = tt
whole_rises (Some z) = whole_within (is_i64 z) z

decimal_rises : (number : Option ℤ) → Rises (whole_as_millionths number)
decimal_rises None = tt
decimal_rises (Some z) = decimal_within _ _

text_rises : (r : Result ℤ NumberFault) → Rises (decimal_of_text r)
text_rises (Ok z) = tt
text_rises (Err BadDecimal) = tt
text_rises (Err NotFinite) = tt
text_rises (Err OutOfRange) = tt

items_rise : (R : Data → Result Value ShapeFault) → ((d : Data) → Rises (R d)) → (items : json.Items) → IfOk (items_read R items) ItemNamesRise
items_rise R each json.no_items = tt
items_rise R each (json.item d ds) =
    binds _ _ (R d) (λ v. items_read R ds >>= λ vs. Ok (values.item v vs)) (each d)
    (λ v rises. binds _ _ (items_read R ds) (λ vs. Ok (values.item v vs)) (items_rise R each ds) (λ vs rest. (rises, rest)))

list_rises : (R : Data → Result Value ShapeFault) → ((d : Data) → Rises (R d)) → (items : json.Items) (short : Bool)
    → Rises (if short then (items_read R items >>= λ vs. Ok (values.list vs)) else Err fault.ListTooLong)
list_rises R each items false = tt
list_rises R each items true = binds _ _ (items_read R items) (λ vs. Ok (values.list vs)) (items_rise R each items) (λ vs all. all)

absent_rises : (shape : Shape) → Rises (absent_read shape)
absent_rises (shapes.optional shape) = tt
absent_rises shape = tt

field_rises : (shape : Shape) (R : Data → Result Value ShapeFault) → ((d : Data) → Rises (R d)) → (o : Option Data) → Rises (field_read R shape o)
field_rises shape R each None = absent_rises shape
field_rises shape R each (Some d) = each d

mutual
  read_rises : (shape : Shape) (d : Data) → ShapeNamesRise shape → Rises (read shape d)
  read_rises shapes.bool (json.boolean b) rise = tt
  read_rises shapes.whole (json.number n) rise = whole_rises (as_integer n)
  read_rises shapes.decimal (json.number n) rise = decimal_rises (as_integer n)
  read_rises shapes.decimal (json.string bytes) rise = text_rises (decimal_of bytes)
  read_rises shapes.text (json.string bytes) rise = tt
  read_rises (shapes.list shape max) (json.array items) rise = list_rises (λ d. read shape d) (λ d. read_rises shape d rise) items (nat_le (item_count items) max)
  read_rises (shapes.object wanted) (json.object given) rise =
      binds _ _ (fields_read wanted given) (λ fields. Ok (values.object fields)) (fields_rise wanted given rise.1) (λ fields both. (subst Rise (sym both.0) rise.0, both.1))
  read_rises (shapes.optional shape) json.null rise = tt
  read_rises (shapes.optional shape) d rise = read_rises shape d rise
  read_rises shape d rise = tt

  -- what is read has the names of the shape
  fields_rise : (wanted : FieldShapes) (given : json.Members) → FieldShapeNamesRise wanted → IfOk (fields_read wanted given) (λ fields. (field_names fields ≡ shape_names wanted) × FieldNamesRise fields)
  fields_rise shapes.no_fields given rise = (refl, tt)
  fields_rise (shapes.field name shape others) given rise =
      binds _ _ (field_read (λ d. read shape d) shape (get_member name given)) (λ v. fields_read others given >>= λ fields. Ok (values.field name v fields))
      (field_rises shape (λ d. read shape d) (λ d. read_rises shape d rise.0) (get_member name given))
      (λ v rises. binds _ _ (fields_read others given) (λ fields. Ok (values.field name v fields)) (fields_rise others given rise.1)
      (λ fields rest. (ap (λ names. name ∷ names) rest.0, (rises, rest.1))))

-- what a function gave has rising names, where it gives what is read
pub gives_names : (r : Result ValueCode ShapeFault) (shape : Shape) (d : Data) → Gives (is_memory_under shape) value_view r (read shape d) → ShapeNamesRise shape → IfOk r (λ v. ValueNamesRise (value_view v))
gives_names (Ok v) shape d h rise = let rises : Rises (read shape d) = read_rises shape d rise in rw h at rises
gives_names (Err e) shape d h rise = tt
