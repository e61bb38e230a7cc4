-- Where a JSON value (RFC 8259) doesn't fit its shape: the first place at which reading it (ar_json/specs/Reading)
-- finds a fault.
use Rattle.std.specs.Prelude.{ℕ, suc, nat_le, if◌then◌else◌, List, [], ◌∷◌, Option, Some, None, option_and_then, option_map, Result, Ok, Err}
use Rattle.std.specs.Option.{option_or}
use Rattle.serde_json.specs.Data as json
use Rattle.serde_json.specs.Data.{Data}
use Rattle.serde_json.specs.Find.{at, get}
use Rattle.ar_value.specs.Terms.{Text}
use Rattle.ar_value.specs.Shape.{Shape, FieldShapes}
use Rattle.ar_value.specs.Shape as shapes
use Rattle.ar_value.specs.Value.{Value}
use Rattle.ar_json.specs.Reading.{item_count, read}
use Rattle.ar_json.specs.declared.value_reading.ShapeFault.{ShapeFault}
use Rattle.ar_json.specs.declared.value_reading.ShapeFault.TheVariants.{ListTooLong, MissingField}

-- ---- places

-- a step from a list to its item of an index, from 0, or from a record to its field of a name
pub data Step : Type 0 where
  index : ℕ → Step
  named : Text → Step

-- what is at the end of some steps, the outermost first
abbrev pub found_at : List Step → Data → Option Data
found_at [] d = Some d
found_at (index n ∷ steps) d = option_and_then (found_at steps) (at n d)
found_at (named name ∷ steps) d = option_and_then (found_at steps) (get name d)

pub record Misfit : Type 0 where
  -- the steps to it, the outermost first
  pub path : List Step
  -- the shape with which a value there is read
  pub expected : Shape
  -- nothing where a field is missing
  pub found : Option Data
  pub fault : ShapeFault

abbrev pub misfit_here : (expected : Shape) → (found : Option Data) → ShapeFault → Misfit
misfit_here expected found fault = record { path = []; expected = expected; found = found; fault = fault }

abbrev pub after_step : Step → Misfit → Misfit
after_step step misfit =
    record { path = step ∷ misfit.path; expected = misfit.expected; found = misfit.found; fault = misfit.fault }

-- ---- the first misfit

abbrev pub misfit_if_refused : (expected : Shape) → Data → Result Value ShapeFault → Option Misfit
misfit_if_refused expected d (Ok value) = None
misfit_if_refused expected d (Err fault) = Some (misfit_here expected (Some d) fault)

-- Below, `misfit` gives the misfit of an inner value.

-- of items from an index on
abbrev pub items_misfit : (misfit : Data → Option Misfit) → (from : ℕ) → json.Items → Option Misfit
items_misfit misfit from json.no_items = None
items_misfit misfit from (json.item d others) =
    option_or (option_map (after_step (index from)) (misfit d)) (items_misfit misfit (suc from) others)

-- a list is too long before its items are looked at
abbrev pub list_misfit : (misfit : Data → Option Misfit) → (expected : Shape) → (max : ℕ) → json.Items → Option Misfit
list_misfit misfit expected max items =
    if nat_le (item_count items) max then items_misfit misfit 0 items
    else Some (misfit_here expected (Some (json.array items)) ListTooLong)

-- a field may be absent where it is optional
abbrev pub absent_misfit : Shape → Option Misfit
absent_misfit (shapes.optional shape) = None
absent_misfit shape = Some (misfit_here shape None MissingField)

abbrev pub field_misfit : (misfit : Data → Option Misfit) → Shape → Option Data → Option Misfit
field_misfit misfit shape (Some d) = misfit d
field_misfit misfit shape None = absent_misfit shape

abbrev mutual
  -- `expected`: the shape with which the value is read, which may be an optional one of `shape`
  pub misfit_as : (expected shape : Shape) → Data → Option Misfit
  misfit_as expected (shapes.list shape max) (json.array items) =
      list_misfit (λ d. misfit_as shape shape d) expected max items
  misfit_as expected (shapes.object fields) (json.object given) = fields_misfit fields (json.object given)
  misfit_as expected (shapes.optional shape) json.null = None
  misfit_as expected (shapes.optional shape) d = misfit_as expected shape d
  misfit_as expected shape d = misfit_if_refused expected d (read shape d)

  -- of the fields of a record, one after another
  pub fields_misfit : FieldShapes → (record_json : Data) → Option Misfit
  fields_misfit shapes.no_fields d = None
  fields_misfit (shapes.field name shape others) d =
      option_or
      (option_map (after_step (named name)) (field_misfit (λ inner. misfit_as shape shape inner) shape (get name d)))
      (fields_misfit others d)

unfoldable pub misfit : Shape → Data → Option Misfit
misfit shape d = misfit_as shape shape d
