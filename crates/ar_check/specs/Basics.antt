-- What the table of kinds and the search for faults both begin with: the kinds of literals.
use Rattle.ar_value.specs.Kind.{Kind, nil, shaped}
use Rattle.ar_value.specs.Shape as shapes
use Rattle.ar_tree.specs.declared.tree.Literal.{Literal}
use Rattle.ar_tree.specs.declared.tree.Literal.TheVariants as literals

abbrev pub literal_kind : Literal → Kind
literal_kind literals.Nil = nil
literal_kind (literals.Bool holds) = shaped shapes.bool
literal_kind (literals.Whole value) = shaped shapes.whole
literal_kind (literals.Decimal millionths) = shaped shapes.decimal
literal_kind (literals.Text text) = shaped shapes.text
