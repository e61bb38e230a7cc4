-- No answer that is defined is out of memory.
use Rattle.std.proofs.Common.{◌≡◌, ◌≢◌, ℕ, zero, suc, ℤ, Bool, true, false, nat_le, List, Option, None, Some, Result, Ok, Err, refl}
use Rattle.std.specs.Prelude.{◌&&◌, codes, if◌then◌else◌, option_and_then}
use Rattle.std.specs.Str.{bytes_eq}
use Rattle.serde_json.specs.Data as json
use Rattle.serde_json.specs.Data.{Data}
use Rattle.serde_json.specs.Find.{as_integer, as_number, as_u64, get_member}
use Rattle.ar_value.specs.Answer.{◌>>=◌}
use Rattle.ar_value.specs.Decimal.{is_i64}
use Rattle.ar_value.specs.DecimalText.{decimal_of}
use Rattle.ar_json.specs.Declaration as declaration
use Rattle.ar_json.specs.Declaration.{scalar_named, max_of, declares_optional, fields_declared, record_declared, optional_declared, list_declared, object_declared, most_shape_levels, shape_within, shape_of}
use Rattle.ar_json.specs.Reading as reading
use Rattle.ar_json.specs.Reading.{read, read_whole, whole_as_millionths, decimal_of_text, item_count, items_read, absent_read, field_read, fields_read}
use Rattle.ar_value.specs.Shape.{Shape, FieldShapes}
use Rattle.ar_value.specs.Shape as shapes
use Rattle.ar_value.specs.Value.{Value, Items, Fields}
use Rattle.ar_value.specs.Value as values
use Rattle.ar_value.specs.declared.decimal.NumberFault.{NumberFault}
use Rattle.ar_value.specs.declared.decimal.NumberFault.TheVariants.{BadDecimal, NotFinite, OutOfRange}
use Rattle.ar_json.specs.declared.shape_reading.ShapeError.{ShapeError}
use Rattle.ar_json.specs.declared.shape_reading.ShapeError.TheVariants as error
use Rattle.ar_json.specs.declared.value_reading.ShapeFault.{ShapeFault}
use Rattle.ar_json.specs.declared.value_reading.ShapeFault.TheVariants as fault

-- a refusal of the answer, if it is one, isn't out of memory
abbrev Judges : {A E : Type 0} → (E → Bool) → Result A E → Type 0
Judges is_memory (Ok x) = Unit {0}
Judges is_memory (Err e) = is_memory e ≡ false

judges_then : {A B E : Type 0} (m : E → Bool) (first : Result A E) (next : A → Result B E) → Judges m first → ((x : A) → Judges m (next x)) → Judges m (first >>= next)
judges_then m (Ok x) next judged each = each x
judges_then m (Err e) next judged each = judged

judges_if : {A E : Type 0} (m : E → Bool) (b : Bool) (x y : Result A E) → Judges m x → Judges m y → Judges m (if b then x else y)
judges_if m true x y p q = p
judges_if m false x y p q = q

-- ---- Shapes

abbrev Declares : {A : Type 0} → Result A ShapeError → Type 0
Declares answer = Judges declaration.is_shape_memory answer

scalar_judged : (name : List ℕ) → Declares (scalar_named name)
scalar_judged name =
    judges_if _ (bytes_eq name (codes "bool")) _ _ tt
    (judges_if _ (bytes_eq name (codes "whole")) _ _ tt
    (judges_if _ (bytes_eq name (codes "decimal")) _ _ tt
    (judges_if _ (bytes_eq name (codes "text")) _ _ tt refl)))

max_judged : (max : Option ℕ) → Declares (max_of max)
max_judged None = refl
max_judged (Some max) = judges_if _ (nat_le max 10000) _ _ tt refl

fields_judged : (R : Data → Result Shape ShapeError) → ((d : Data) → Declares (R d)) → (given : json.Members) → Declares (fields_declared R given)
fields_judged R each json.no_members = tt
fields_judged R each (json.member name d others) =
    judges_then _ (R d) _ (each d) (λ shape. judges_then _ (fields_declared R others) _ (fields_judged R each others) (λ found. tt))

record_judged : (R : Data → Result Shape ShapeError) → ((d : Data) → Declares (R d)) → (d : Data) → Declares (record_declared R d)
record_judged R each (json.object given) = judges_then _ (fields_declared R given) _ (fields_judged R each given) (λ found. tt)
record_judged R each d = refl

optional_judged : (R : Data → Result Shape ShapeError) → ((d : Data) → Declares (R d)) → (d : Data) → Declares (optional_declared R d)
optional_judged R each d = judges_if _ (declares_optional d) _ _ refl (judges_then _ (R d) _ (each d) (λ shape. tt))

list_judged : (R : Data → Result Shape ShapeError) → ((d : Data) → Declares (R d)) → (d max : Data) → Declares (list_declared R d max)
list_judged R each d max =
    judges_then _ (max_of (option_and_then as_u64 (as_number max))) _ (max_judged (option_and_then as_u64 (as_number max))) (λ most. judges_then _ (R d) _ (each d) (λ shape. tt))

object_judged : (R : Data → Result Shape ShapeError) → ((d : Data) → Declares (R d)) → (given : json.Members) → Declares (object_declared R given)
object_judged R each (json.member name d json.no_members) =
    judges_if _ (bytes_eq name (codes "list")) _ _ refl
    (judges_if _ (bytes_eq name (codes "record")) _ _ (record_judged R each d)
    (judges_if _ (bytes_eq name (codes "optional")) _ _ (optional_judged R each d) refl))
object_judged R each (json.member first d (json.member second max json.no_members)) =
    judges_if _ (bytes_eq first (codes "list") && bytes_eq second (codes "max")) _ _ (list_judged R each d max) refl
object_judged R each given = refl

within_judged : (levels : ℕ) (d : Data) → Declares (shape_within levels d)
within_judged zero d = refl
within_judged (suc levels) (json.string name) = scalar_judged name
within_judged (suc levels) (json.object given) = object_judged (shape_within levels) (λ d. within_judged levels d) given
within_judged (suc levels) d = refl

pub shape_not_memory : (d : Data) → shape_of d ≢ Err error.OutOfMemory
unfolding shape_of
shape_not_memory d h = let judged : Declares (shape_within most_shape_levels d) = within_judged most_shape_levels d in let no : true ≡ false = rw h at judged in cc

-- ---- Values

abbrev Reads : {A : Type 0} → Result A ShapeFault → Type 0
Reads answer = Judges reading.is_reading_memory answer

whole_judged : (number : Option ℤ) → Reads (read_whole number)
whole_judged None = refl
whole_judged (Some z) = judges_if _ (is_i64 z) _ _ tt refl

decimal_within : (b : Bool) (z : ℤ) → Reads (if b then Ok (values.decimal z) else Err fault.OutOfRange)
decimal_within true z = tt
decimal_within false z = refl

decimal_judged : (number : Option ℤ) → Reads (whole_as_millionths number)
decimal_judged None = refl
decimal_judged (Some z) = decimal_within _ _

text_judged : (r : Result ℤ NumberFault) → Reads (decimal_of_text r)
text_judged (Ok z) = tt
text_judged (Err BadDecimal) = refl
text_judged (Err NotFinite) = refl
text_judged (Err OutOfRange) = refl

items_judged : (R : Data → Result Value ShapeFault) → ((d : Data) → Reads (R d)) → (items : json.Items) → Reads (items_read R items)
items_judged R each json.no_items = tt
items_judged R each (json.item d ds) = judges_then _ (R d) _ (each d) (λ v. judges_then _ (items_read R ds) _ (items_judged R each ds) (λ vs. tt))

absent_judged : (shape : Shape) → Reads (absent_read shape)
absent_judged (shapes.optional shape) = tt
absent_judged shape = refl

field_judged : (shape : Shape) (R : Data → Result Value ShapeFault) → ((d : Data) → Reads (R d)) → (o : Option Data) → Reads (field_read R shape o)
field_judged shape R each None = absent_judged shape
field_judged shape R each (Some d) = each d

mutual
  read_judged : (shape : Shape) (d : Data) → Reads (read shape d)
  read_judged shapes.bool (json.boolean b) = tt
  read_judged shapes.whole (json.number n) = whole_judged (as_integer n)
  read_judged shapes.decimal (json.number n) = decimal_judged (as_integer n)
  read_judged shapes.decimal (json.string bytes) = text_judged (decimal_of bytes)
  read_judged shapes.text (json.string bytes) = tt
  read_judged (shapes.list shape max) (json.array items) =
      judges_if _ (nat_le (item_count items) max) _ _ (judges_then _ (items_read (λ d. read shape d) items) _ (items_judged (λ d. read shape d) (λ d. read_judged shape d) items) (λ vs. tt)) refl
  read_judged (shapes.object wanted) (json.object given) = judges_then _ (fields_read wanted given) _ (read_fields_judged wanted given) (λ found. tt)
  read_judged (shapes.optional shape) json.null = tt
  read_judged (shapes.optional shape) d = read_judged shape d
  read_judged shape d = refl

  read_fields_judged : (wanted : FieldShapes) (given : json.Members) → Reads (fields_read wanted given)
  read_fields_judged shapes.no_fields given = tt
  read_fields_judged (shapes.field name shape others) given =
      judges_then _ (field_read (λ d. read shape d) shape (get_member name given)) _
      (field_judged shape (λ d. read shape d) (λ d. read_judged shape d) (get_member name given))
      (λ v. judges_then _ (fields_read others given) _ (read_fields_judged others given) (λ found. tt))

pub value_not_memory : (shape : Shape) (d : Data) → read shape d ≢ Err fault.OutOfMemory
value_not_memory shape d h = let judged : Reads (read shape d) = read_judged shape d in let no : true ≡ false = rw h at judged in cc
