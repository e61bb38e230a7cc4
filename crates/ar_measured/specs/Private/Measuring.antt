-- Reading of a JSON value that may be no data.
use Rattle.std.specs.Prelude.{◌≡◌, Bool, Option, Some, None, Result, Ok, Err}
use Rattle.ar_value.specs.Answer.{Unless}
use Rattle.ar_value.specs.Shape.{Shape}
use Rattle.ar_value.specs.Shape as shapes
use Rattle.ar_json.specs.declared.value_reading.ShapeFault.{ShapeFault}

-- the shape of what isn't a list, inside of lists and of optional shapes
abbrev pub inside_lists : Shape → Shape
inside_lists (shapes.list shape max) = inside_lists shape
inside_lists (shapes.optional shape) = inside_lists shape
inside_lists shapes.bool = shapes.bool
inside_lists shapes.whole = shapes.whole
inside_lists shapes.decimal = shapes.decimal
inside_lists shapes.text = shapes.text
inside_lists (shapes.object of) = shapes.object of

-- a refusal is the one that is defined; what is no data may be refused by any name
abbrev pub IsDefinedFault : {Y : Type 0} → ShapeFault → Option (Result Y ShapeFault) → Type 0
IsDefinedFault fault (Some answer) = answer ≡ Err fault
IsDefinedFault fault None = Unit {0}

-- What a function returned, seen by a view, is the answer that is defined for the data that is there; it returns no
-- value where there is none. So is a refusal, unless it is out of memory.
abbrev pub IsMeasured : {X Y : Type 0} → (ShapeFault → Bool) → (X → Y) → Result X ShapeFault
    → Option (Result Y ShapeFault) → Type 0
IsMeasured is_memory view (Ok x) answer = answer ≡ Some (Ok (view x))
IsMeasured is_memory view (Err fault) answer = Unless (is_memory fault) (IsDefinedFault fault answer)
