-- A value has a misfit just where reading refuses it.
use Rattle.std.proofs.Common.{◌≡◌, ℕ, suc, Bool, true, false, nat_le, if◌then◌else◌, Option, Some, None, option_map, Result, Ok, Err, refl}
use Rattle.std.specs.Option.{option_or}
use Rattle.serde_json.specs.Data as json
use Rattle.serde_json.specs.Data.{Data}
use Rattle.serde_json.specs.Find.{get_member}
use Rattle.ar_value.specs.Answer.{◌>>=◌}
use Rattle.ar_value.specs.Shape.{Shape, FieldShapes}
use Rattle.ar_value.specs.Shape as shapes
use Rattle.ar_value.specs.Value.{Value}
use Rattle.ar_value.specs.Value as values
use Rattle.ar_json.specs.Reading.{absent_read, field_read, fields_read, item_count, items_read, read}
use Rattle.ar_json.specs.declared.value_reading.ShapeFault.{ShapeFault}
use Rattle.ar_json.specs.declared.value_reading.ShapeFault.TheVariants.{ListTooLong}
use Rattle.ar_misfit.specs.Misfit.{Misfit, Step, index, named, absent_misfit, after_step, field_misfit, fields_misfit, items_misfit, misfit, misfit_as, misfit_here, misfit_if_refused}

abbrev Agree : {A : Type 0} → Option Misfit → Result A ShapeFault → Type 0
Agree (Some m) r = r ≡ Err m.fault
Agree None (Ok v) = Unit {0}
Agree None (Err e) = ⊥

if_refused : (expected : Shape) (d : Data) (r : Result Value ShapeFault) → Agree (misfit_if_refused expected d r) r
if_refused expected d (Ok v) = tt
if_refused expected d (Err e) = refl

-- what is made of a value changes no refusal
made : {A B : Type 0} (found : Option Misfit) (r : Result A ShapeFault) (make : A → B) → Agree found r → Agree found (r >>= λ x. Ok (make x))
made (Some m) r make agree = rw agree refl
made None (Ok x) make agree = tt
made None (Err e) make agree = agree

-- the first refusal of two
one_of : {A B : Type 0} (step : Step) (found later : Option Misfit) (r : Result A ShapeFault) (next : A → Result B ShapeFault) → Agree found r → ((x : A) → Agree later (next x))
    → Agree (option_or (option_map (after_step step) found) later) (r >>= next)
one_of step (Some m) later r next agree each = rw agree refl
one_of step None later (Ok x) next agree each = each x
one_of step None later (Err e) next agree each = absurd agree

items_agree : (M : Data → Option Misfit) (R : Data → Result Value ShapeFault) → ((d : Data) → Agree (M d) (R d)) → (from : ℕ) (items : json.Items) → Agree (items_misfit M from items) (items_read R items)
items_agree M R each from json.no_items = tt
items_agree M R each from (json.item d ds) =
    one_of (index from) (M d) (items_misfit M (suc from) ds) (R d) _ (each d) (λ v. made (items_misfit M (suc from) ds) (items_read R ds) (λ vs. values.item v vs) (items_agree M R each (suc from) ds))

list_agrees : (M : Data → Option Misfit) (R : Data → Result Value ShapeFault) → ((d : Data) → Agree (M d) (R d)) → (expected : Shape) (items : json.Items) (short : Bool)
    → Agree (if short then items_misfit M 0 items else Some (misfit_here expected (Some (json.array items)) ListTooLong)) (if short then (items_read R items >>= λ vs. Ok (values.list vs)) else Err ListTooLong)
list_agrees M R each expected items true = made (items_misfit M 0 items) (items_read R items) (λ vs. values.list vs) (items_agree M R each 0 items)
list_agrees M R each expected items false = refl

absent_agrees : (shape : Shape) → Agree (absent_misfit shape) (absent_read shape)
absent_agrees (shapes.optional shape) = tt
absent_agrees shape = refl

field_agrees : (M : Data → Option Misfit) (R : Data → Result Value ShapeFault) → ((d : Data) → Agree (M d) (R d)) → (shape : Shape) (found : Option Data) → Agree (field_misfit M shape found) (field_read R shape found)
field_agrees M R each shape (Some d) = each d
field_agrees M R each shape None = absent_agrees shape

mutual
  agrees : (expected shape : Shape) (d : Data) → Agree (misfit_as expected shape d) (read shape d)
  agrees expected (shapes.list shape max) (json.array items) =
      list_agrees (λ d. misfit_as shape shape d) (λ d. read shape d) (λ d. agrees shape shape d) expected items (nat_le (item_count items) max)
  agrees expected (shapes.object of) (json.object given) =
      made (fields_misfit of (json.object given)) (fields_read of given) (λ vs. values.object vs) (fields_agree of given)
  agrees expected (shapes.optional shape) json.null = tt
  agrees expected (shapes.optional shape) d = agrees expected shape d
  agrees expected shape d = if_refused expected d (read shape d)

  fields_agree : (of : FieldShapes) (given : json.Members) → Agree (fields_misfit of (json.object given)) (fields_read of given)
  fields_agree shapes.no_fields given = tt
  fields_agree (shapes.field name shape others) given =
      one_of (named name) (field_misfit (λ d. misfit_as shape shape d) shape (get_member name given)) (fields_misfit others (json.object given))
      (field_read (λ d. read shape d) shape (get_member name given)) _
      (field_agrees (λ d. misfit_as shape shape d) (λ d. read shape d) (λ d. agrees shape shape d) shape (get_member name given))
      (λ v. made (fields_misfit others (json.object given)) (fields_read others given) (λ vs. values.field name v vs) (fields_agree others given))

pub misfit_refused : (shape : Shape) (d : Data) (m : Misfit) → misfit shape d ≡ Some m → read shape d ≡ Err m.fault
unfolding misfit
misfit_refused shape d m is = let agree : Agree (misfit_as shape shape d) (read shape d) = agrees shape shape d in rw is at agree

some_value : (r : Result Value ShapeFault) → Agree None r → (value : Value) × (r ≡ Ok value)
some_value (Ok value) agree = (value, refl)
some_value (Err e) agree = absurd agree

pub no_misfit_read : (shape : Shape) (d : Data) → misfit shape d ≡ None → (value : Value) × (read shape d ≡ Ok value)
unfolding misfit
no_misfit_read shape d is = let agree : Agree (misfit_as shape shape d) (read shape d) = agrees shape shape d in some_value (read shape d) (rw is at agree)
