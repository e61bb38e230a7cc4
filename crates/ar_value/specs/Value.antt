-- Values of measurements.
use Rattle.std.specs.Prelude.{ℕ, suc, ℤ, Bool, ◌==◌, if◌then◌else◌, List, [], ◌∷◌, Option, Some, None}
use Rattle.std.specs.Str.{bytes_eq}
use Rattle.ar_value.specs.Terms.{Text}

mutual
  pub data Value : Type 0 where
    nil : Value
    bool : Bool → Value
    whole : ℤ → Value
    -- a number of millionths
    decimal : ℤ → Value
    -- its bytes in UTF-8
    text : Text → Value
    list : Items → Value
    object : Fields → Value

  pub data Items : Type 0 where
    no_items : Items
    item : Value → Items → Items

  pub data Fields : Type 0 where
    no_fields : Fields
    -- a name, its value, and the fields after it
    field : Text → Value → Fields → Fields

abbrev pub count : Items → ℕ
count no_items = 0
count (item value items) = suc (count items)

abbrev pub items_of : List Value → Items
items_of [] = no_items
items_of (value ∷ values) = item value (items_of values)

-- the value with an index, where `indices` has the index of each value; nil where none has it
abbrev pub value_at : ℕ → List ℕ → List Value → Value
value_at index (first ∷ indices) (value ∷ values) = if first == index then value else value_at index indices values
value_at index indices values = nil

-- a field for each name, the first at `index` and each other one at the next, with the value that is there
abbrev pub fields_from : ℕ → List Text → List ℕ → List Value → Fields
fields_from index [] indices values = no_fields
fields_from index (name ∷ names) indices values =
    field name (value_at index indices values) (fields_from (suc index) names indices values)

-- the value of the first field of a name
abbrev pub value_named : Text → Fields → Option Value
value_named name no_fields = None
value_named name (field of value others) = if bytes_eq of name then Some value else value_named name others
