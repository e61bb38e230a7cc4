-- How a misfit is said to a person: its path, the fault's name, what was expected there and what was found.
use Rattle.std.specs.Prelude.{Float, if◌then◌else◌, List, [], ◌∷◌, ◌++◌, codes, decimal, flat_map, Option, Some, None}
use Rattle.std.specs.Fmt.{signed_decimal}
use Rattle.serde_json.specs.Data as json
use Rattle.serde_json.specs.Data.{Data, Num}
use Rattle.ar_value.specs.Terms.{Text}
use Rattle.ar_value.specs.Shape.{Shape}
use Rattle.ar_value.specs.Shape as shapes
use Rattle.ar_json.specs.Reading.{item_count}
use Rattle.ar_json.specs.Refusals.{shape_fault_name}
use Rattle.ar_json.specs.declared.value_reading.ShapeFault.{ShapeFault}
use Rattle.ar_json.specs.declared.value_reading.ShapeFault.TheVariants.{WrongKind, FloatNumber, NotFinite, BadDecimal, OutOfRange, ListTooLong, MissingField, OutOfMemory}
use Rattle.ar_quote.specs.Shown.{quoted}
use Rattle.ar_show.specs.PartText.{field_text}
use Rattle.ar_show.specs.Words.{boolean_text}
use Rattle.ar_misfit.specs.FloatText.{digits_text, float_text, is_shown_whole}
use Rattle.ar_misfit.specs.Misfit.{Misfit, Step, index, named}

-- ---- the path

-- an index in brackets; a name that is a word after a point, and any other in brackets and quotes
abbrev pub step_text : Step → Text
step_text (index n) = codes "[" ++ (decimal n ++ codes "]")
step_text (named name) = field_text name

abbrev pub path_text : List Step → Text
path_text [] = codes "the value"
path_text (step ∷ steps) = flat_map step_text (step ∷ steps)

-- ---- what was expected and found

abbrev pub expected_text : Shape → Text
expected_text shapes.bool = codes "true or false"
expected_text shapes.whole = codes "a whole number"
expected_text shapes.decimal = codes "a decimal as a text, or a whole number"
expected_text shapes.text = codes "a text"
expected_text (shapes.list shape max) = codes "a list of at most " ++ (decimal max ++ codes " items")
expected_text (shapes.object of) = codes "an object"
expected_text (shapes.optional shape) = expected_text shape ++ codes " or null"

-- a number with a fraction or an exponent, and one beyond 64 bits, is read as a float
abbrev pub number_shown : Num → Text
number_shown (json.unsigned n) = decimal n
number_shown (json.negative z) = signed_decimal z
number_shown (json.float x) = float_text x

abbrev pub found_text : Option Data → Text
found_text None = codes "nothing"
found_text (Some json.null) = codes "null"
found_text (Some (json.boolean b)) = boolean_text b
found_text (Some (json.number n)) = number_shown n
found_text (Some (json.string text)) = quoted text
found_text (Some (json.array items)) = codes "a list of " ++ (decimal (item_count items) ++ codes " items")
found_text (Some (json.object given)) = codes "an object"

-- ---- what to do

-- a float that the reader found, if it did
abbrev pub float_found : (found : Option Data) → Option Float
float_found (Some (json.number (json.float x))) = Some x
float_found found = None

-- the text to write, where the shown decimal is read as the float that was found
abbrev pub quoting_advice : (found : Option Float) → Text
quoting_advice None = codes "write the number in quotes, as a text"
quoting_advice (Some x) =
    if is_shown_whole x then codes "write \"" ++ (digits_text x ++ codes "\"")
    else codes "write the number in quotes, as a text"

abbrev pub float_advice : (expected : Shape) → (found : Option Float) → Option Text
float_advice shapes.bool found = None
float_advice shapes.whole found = Some (codes "an integer has no point and no exponent, and 64 bits")
float_advice shapes.decimal found = Some (quoting_advice found)
float_advice shapes.text found = None
float_advice (shapes.list shape max) found = None
float_advice (shapes.object of) found = None
float_advice (shapes.optional shape) found = float_advice shape found

abbrev pub advice : ShapeFault → (expected : Shape) → (found : Option Data) → Option Text
advice WrongKind expected found = None
advice FloatNumber expected found = float_advice expected (float_found found)
advice NotFinite expected found = Some (codes "it is no value, and counts towards consecutiveErrorLimit")
advice BadDecimal expected found = None
advice OutOfRange expected found = None
advice ListTooLong expected found = None
advice MissingField expected found = None
advice OutOfMemory expected found = None

abbrev pub advice_text : Option Text → Text
advice_text None = []
advice_text (Some words) = codes "; " ++ words

-- ---- the whole text

-- what comes after the path
abbrev pub fault_text : Misfit → Text
fault_text misfit =
    codes ": " ++ (shape_fault_name misfit.fault ++ (codes ": expected " ++ (expected_text misfit.expected
    ++ (codes ", found " ++ (found_text misfit.found
    ++ advice_text (advice misfit.fault misfit.expected misfit.found))))))

unfoldable pub misfit_text : Misfit → Text
misfit_text misfit = path_text misfit.path ++ fault_text misfit
