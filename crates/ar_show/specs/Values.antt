-- How a value is shown to a person: in the words of conditions, and shortened, so that its text has a greatest length
-- whatever the value is.
use Rattle.std.specs.Prelude.{◌≡◌, refl, ℕ, zero, suc, ◌-◌, ◌==◌, pos, negsuc, Bool, true, false, if◌then◌else◌, List, [], ◌++◌, codes, decimal, length, replicate}
use Rattle.std.specs.Fmt.{digits, signed_decimal}
use Rattle.std.specs.Str.{chars}
use Rattle.ar_value.specs.DecimalShown.{decimal_text}
use Rattle.ar_value.specs.Terms.{Text}
use Rattle.ar_value.specs.Value.{Value, Items, Fields, count}
use Rattle.ar_value.specs.Value as values
use Rattle.ar_quote.specs.Shown.{most_characters, quoted}
use Rattle.ar_show.specs.Words.{between, boolean_text, left_out, units}

-- how many items of a list are shown
abbrev pub most_shown_items : ℕ
most_shown_items = 3

-- how many fields of a record are shown
abbrev pub most_fields : ℕ
most_fields = 8

-- how many lists and records are shown within one another
abbrev pub most_levels : ℕ
most_levels = 3

abbrev pub field_count : Fields → ℕ
field_count values.no_fields = 0
field_count (values.field name value others) = suc (field_count others)

-- a text as a JSON string in one line, with the number of characters that are left out
unfoldable pub shown_text : Text → List ℕ
shown_text text = quoted text ++ left_out (codes "character") (length (chars text) - most_characters)

abbrev mutual
  -- `levels`: how many lists and records are shown within one another; those below are counted
  pub shown_within : (levels : ℕ) → Value → List ℕ
  shown_within levels values.nil = codes "nil"
  shown_within levels (values.bool boolean) = boolean_text boolean
  shown_within levels (values.whole whole) = signed_decimal whole
  shown_within levels (values.decimal millionths) = decimal_text millionths
  shown_within levels (values.text text) = shown_text text
  shown_within levels (values.list items) =
      if levels == 0
      then codes "[" ++ (decimal (count items) ++ (codes " " ++ (units (codes "item") (count items) ++ codes "]")))
      else codes "[" ++ (shown_items (levels - 1) most_shown_items true items ++ codes "]")
  shown_within levels (values.object fields) =
      if levels == 0
      then codes "{" ++ (decimal (field_count fields)
      ++ (codes " " ++ (units (codes "field") (field_count fields) ++ codes "}")))
      else codes "{" ++ (shown_fields (levels - 1) most_fields true fields ++ codes "}")

  -- `most`: how many of these items are shown; `first`: no item comes before these
  pub shown_items : (levels most : ℕ) → (first : Bool) → Items → List ℕ
  shown_items levels most first values.no_items = []
  shown_items levels most first (values.item value others) =
      if most == 0 then left_out (codes "item") (suc (count others))
      else (between first ++ shown_within levels value) ++ shown_items levels (most - 1) false others

  -- the same of fields
  pub shown_fields : (levels most : ℕ) → (first : Bool) → Fields → List ℕ
  shown_fields levels most first values.no_fields = []
  shown_fields levels most first (values.field name value others) =
      if most == 0 then left_out (codes "field") (suc (field_count others))
      else (between first ++ (quoted name ++ (codes ": " ++ shown_within levels value)))
      ++ shown_fields levels (most - 1) false others

unfoldable pub shown_value : Value → List ℕ
shown_value value = shown_within most_levels value

-- ---- worked rows

one : Value
one = values.whole (pos 1)

ones : ℕ → Items
ones zero = values.no_items
ones (suc number) = values.item one (ones number)

list_of : Value → Value
list_of value = values.list (values.item value values.no_items)

three_items_and_the_number_of_others : shown_value (values.list (ones 10)) ≡ codes "[1, 1, 1 and 7 more items]"
unfolding shown_value ones one digits
three_items_and_the_number_of_others = refl

a_record : shown_value (values.object (values.field (codes "p95") (values.decimal (negsuc 499999))
    (values.field (codes "up") values.nil values.no_fields)))
    ≡ codes "{\"p95\": -0.5, \"up\": nil}"
unfolding shown_value quoted decimal_text digits chars lib.Utf8.encode
a_record = refl

three_levels : shown_value (list_of (list_of (list_of (list_of one)))) ≡ codes "[[[[1 item]]]]"
unfolding shown_value list_of one digits
three_levels = refl

a_long_text : shown_text (replicate 70 97) ≡ codes "\"" ++ (replicate 64 97 ++ codes "\".. and 6 more characters")
unfolding shown_text quoted digits chars lib.Utf8.encode
a_long_text = refl

a_long_text_in_a_list : shown_value (values.list (values.item (values.text (replicate 70 97)) (ones 1)))
    ≡ codes "[\"" ++ (replicate 64 97 ++ codes "\".. and 6 more characters, 1]")
unfolding shown_value shown_text ones one quoted digits chars lib.Utf8.encode
a_long_text_in_a_list = refl
