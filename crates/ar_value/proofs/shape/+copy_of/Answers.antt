use Rattle.std.proofs.Common.{arith, map, ap, ◌∙◌}
use Rattle.std.proofs.lemmas.Grind.{common_steps}
use Rattle.ar_value.specs.View.{shape_view}
use Rattle.ar_value.proofs.FieldLists.{record_same}
use Rattle.ar_value.proofs.shape.+copy_of.Goals as goal

pub copies_of-loop-shape-preserved : goal.copies_of-loop-shape-preserved
copies_of-loop-shape-preserved t c = grind (arith, common_steps)

pub copies_of-returns : goal.copies_of-returns
copies_of-returns t c = grind (arith, common_steps)

pub copy_of-returns-in_ok-copies_of-in-Object : goal.copy_of-returns-in_ok-copies_of-in-Object
copy_of-returns-in_ok-copies_of-in-Object t c =
    rw c.in-Object.is (record_same _ _ c.in_ok-share-in-Object.ensures (c.in_ok-copies_of-in-Object.ensures ∙ ap (map shape_view) c.deref-in-Object.ensures.value))
