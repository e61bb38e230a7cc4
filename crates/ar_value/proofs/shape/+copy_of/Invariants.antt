use Rattle.std.proofs.Common.{◌≡◌, map, take}
use Rattle.ar_value.specs.View.{shape_view}
use Rattle.ar_value.proofs.shape.+copy_of.Given as goal

abbrev pub invariant-copies_of-loop-shape : goal.invariant-copies_of-loop-shape
invariant-copies_of-loop-shape l = map shape_view l.copies.items ≡ map shape_view (take l.shape-index l.shapes)
