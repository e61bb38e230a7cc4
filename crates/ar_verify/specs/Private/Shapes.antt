-- What shapes of operands in memory represent: parts that were joined are of one form, and the greatest lengths count.
use Rattle.std.specs.Prelude.{ℕ, map}
use Rattle.ar_value.specs.Shape.{Shape}
use Rattle.ar_verify.specs.Private.Forms.{widest_of}
use Rattle.ar_verify.specs.Private.Lists.{longest}
use Rattle.ar_verify.specs.Private.Parts.{part_view}
use Rattle.ar_verify.specs.Private.Roots.{child}
use Rattle.ar_verify.specs.declared.parts.Parts.{Parts}
use Rattle.ar_verify.specs.declared.whole.ShapeName as ShapeName

abbrev pub parts_view : {M : Type 0} {name : ShapeName.Ghosts M} → Parts M name → Shape
parts_view p = widest_of (part_view p.first.value) (map (λ other. part_view other.value) p.others.items)

-- the item's shape and the greatest length, where it is that of a list
abbrev pub list_of : {M : Type 0} {name : ShapeName.Ghosts M} → Parts M name → Shape × ℕ
list_of p = (child 0 (parts_view p), longest (parts_view p))
