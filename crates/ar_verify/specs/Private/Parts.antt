-- What parts of shapes in memory represent.
use Rattle.ar_value.specs.Shape.{Shape}
use Rattle.ar_verify.specs.Private.Roots.{part_at, root_view}
use Rattle.ar_verify.specs.declared.path.Part.{Part}
use Rattle.ar_verify.specs.declared.whole.ShapeName as ShapeName

abbrev pub part_view : {M : Type 0} {name : ShapeName.Ghosts M} → Part M name → Shape
part_view p = part_at p.path.items (root_view p.root)
