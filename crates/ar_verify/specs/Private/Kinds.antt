-- What kinds in memory represent, and kinds by their shapes.
use Rattle.std.specs.Prelude.{ℕ, Option, None}
use Rattle.ar_value.specs.Kind.{Kind, nil, shaped}
use Rattle.ar_value.specs.Shape.{Shape, optional}
use Rattle.ar_verify.specs.Private.Lists.{list_parts}
use Rattle.ar_verify.specs.Private.Shapes.{list_of, parts_view}
use Rattle.ar_verify.specs.declared.kind.Kind as code
use Rattle.ar_verify.specs.declared.kind.Kind.TheVariants as kinds
use Rattle.ar_verify.specs.declared.list.ListShape.{ListShape}
use Rattle.ar_verify.specs.declared.whole.ShapeName as ShapeName

abbrev pub parts_kind : {M : Type 0} {name : ShapeName.Ghosts M} → code.Kind M name → Kind
parts_kind kinds.Nil = nil
parts_kind (kinds.Shape parts) = shaped (parts_view parts.value)
parts_kind (kinds.OrNil parts) = shaped (optional (parts_view parts.value))

abbrev pub list_in : Kind → Option (Shape × ℕ)
list_in nil = None
list_in (shaped shape) = list_parts shape

-- what is known of a list, by its shape
abbrev pub list_view : {M : Type 0} {name : ShapeName.Ghosts M} → ListShape M name → Shape × ℕ
list_view l = list_of l.parts.value
