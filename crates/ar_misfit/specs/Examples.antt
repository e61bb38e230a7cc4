-- Worked examples of misfits and of their texts.
use Rattle.std.specs.Prelude.{◌≡◌, refl, ◌++◌, codes, negsuc, true, false, Some, None, option_map}
use Rattle.std.specs.Float.{float_with_sign, is_sign_negative, round_with}
use Rattle.std.specs.Float.Ieee.{div, eq, fin, mul, odd, of_bits, of_int, round, size, to_signed, units}
use Rattle.std.specs.Fmt.{digits}
use Rattle.std.specs.Str.{chars}
use Rattle.serde_json.specs.Data as json
use Rattle.serde_json.specs.Data.{Data}
use Rattle.ar_value.specs.DecimalShown.{decimal_text}
use Rattle.ar_value.specs.Shape.{Shape}
use Rattle.ar_value.specs.Shape as shapes
use Rattle.ar_json.specs.declared.value_reading.ShapeFault.TheVariants.{NotFinite}
use Rattle.ar_quote.specs.Shown.{quoted}
use Rattle.ar_misfit.specs.FloatText.{float_text}
use Rattle.ar_misfit.specs.Misfit.{misfit, misfit_here}
use Rattle.ar_misfit.specs.MisfitData.{misfit_data}
use Rattle.ar_misfit.specs.MisfitText.{misfit_text}

-- {"list": {"record": {"rates": {"list": "whole", "max": 2}, "up": "bool"}}, "max": 2}
hosts : Shape
hosts = shapes.list
    (shapes.object (shapes.field (codes "rates") (shapes.list shapes.whole 2)
    (shapes.field (codes "up") shapes.bool shapes.no_fields))) 2

rates : Data → json.Members → Data
rates items others = json.object (json.member (codes "rates") items others)

up : json.Members
up = json.member (codes "up") (json.boolean true) json.no_members

two : (first second : Data) → Data
two first second = json.array (json.item first (json.item second json.no_items))

one_item : Data → Data
one_item d = json.array (json.item d json.no_items)

three_levels_deep : option_map misfit_text (misfit hosts (two (rates (one_item (json.number (json.unsigned 1))) up)
    (rates (one_item (json.string (codes "x"))) up)))
    ≡ Some (codes "[1].rates[0]: WrongKind: expected a whole number, found \"x\"")
unfolding hosts rates up two one_item misfit misfit_text digits quoted chars lib.Utf8.encode
three_levels_deep = refl

missing_field : option_map misfit_text (misfit hosts (one_item (rates (json.array json.no_items) json.no_members)))
    ≡ Some (codes "[0].up: MissingField: expected true or false, found nothing")
unfolding hosts rates one_item misfit misfit_text digits
missing_field = refl

fraction : option_map misfit_text
    (misfit (shapes.optional shapes.decimal) (json.number (json.float (fin false 1 (negsuc 1)))))
    ≡ Some (codes "the value: FloatNumber: expected a decimal as a text, or a whole number or null, "
    ++ codes "found 0.25; write \"0.25\"")
unfolding misfit misfit_text float_text round_with float_with_sign is_sign_negative mul div of_int eq round size units odd
    to_signed of_bits decimal_text digits
fraction = refl

too_long : option_map misfit_text (misfit (shapes.list shapes.bool 1) (two json.null json.null))
    ≡ Some (codes "the value: ListTooLong: expected a list of at most 1 items, found a list of 2 items")
unfolding two misfit misfit_text digits
too_long = refl

name_that_is_no_word : option_map misfit_text
    (misfit (shapes.object (shapes.field (codes "p 95") shapes.bool shapes.no_fields))
    (json.object (json.member (codes "p 95") (json.number (json.unsigned 0)) json.no_members)))
    ≡ Some (codes "[\"p 95\"]: WrongKind: expected true or false, found 0")
unfolding misfit misfit_text digits quoted chars lib.Utf8.encode
name_that_is_no_word = refl

not_a_number : misfit_text (misfit_here shapes.decimal (Some (json.string (codes "NaN"))) NotFinite)
    ≡ codes "the value: NotFinite: expected a decimal as a text, or a whole number, "
    ++ codes "found \"NaN\"; it is no value, and counts towards consecutiveErrorLimit"
unfolding misfit_text quoted chars lib.Utf8.encode
not_a_number = refl

fits : option_map misfit_text (misfit hosts (one_item (rates (json.array json.no_items) up))) ≡ None
unfolding hosts rates up one_item misfit
fits = refl

-- ---- as JSON

steps_and_pointer : option_map (misfit_data (codes "/measurements/3/value"))
    (misfit (shapes.object (shapes.field (codes "a/b") (shapes.list shapes.bool 2) shapes.no_fields))
    (json.object (json.member (codes "a/b") (one_item (json.number (json.unsigned 7))) json.no_members)))
    ≡ Some (json.object
    (json.member (codes "expected") (json.string (codes "true or false"))
    (json.member (codes "fault") (json.string (codes "WrongKind"))
    (json.member (codes "found") (json.string (codes "7"))
    (json.member (codes "hint") json.null
    (json.member (codes "path")
    (json.array (json.item (json.string (codes "a/b")) (json.item (json.number (json.unsigned 0)) json.no_items)))
    (json.member (codes "pointer") (json.string (codes "/measurements/3/value/a~1b/0")) json.no_members)))))))
unfolding one_item misfit digits chars lib.Utf8.encode
steps_and_pointer = refl
