-- What the code's shapes and JSON values represent, one level of each.
use Rattle.std.proofs.Common.{◌≡◌, Box, Global, suc, List, [], ◌∷◌, length, refl, ap, rules}
use Rattle.serde_json.specs.View.{items_view}
use Rattle.serde_json.specs.declared.value.Value.{Value as Json}
use Rattle.ar_value.specs.Shape as shapes
use Rattle.ar_value.specs.View.{shape_view}
use Rattle.ar_value.specs.declared.shape.Shape.{Shape, Bool as BoolShape, Whole as WholeShape, Decimal as DecimalShape, Text as TextShape, Optional as OptionalShape, the_lemmas}
use Rattle.ar_json.specs.Reading.{item_count}

pub shape_view-optional : (plain : Box Shape Global) → shape_view (OptionalShape plain) ≡ shapes.optional (shape_view plain.value)
shape_view-optional plain = search (rules, the_lemmas)

pub shape_view-bool : shape_view BoolShape ≡ shapes.bool
shape_view-bool = search (rules, the_lemmas)

pub shape_view-whole : shape_view WholeShape ≡ shapes.whole
shape_view-whole = search (rules, the_lemmas)

pub shape_view-decimal : shape_view DecimalShape ≡ shapes.decimal
shape_view-decimal = search (rules, the_lemmas)

pub shape_view-text : shape_view TextShape ≡ shapes.text
shape_view-text = search (rules, the_lemmas)

pub count_of_view : (items : List Json) → item_count (items_view items) ≡ length items
count_of_view [] = refl
count_of_view (item ∷ items) = ap suc (count_of_view items)
