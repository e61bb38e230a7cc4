use Rattle.std.proofs.Common.{◌≡◌, ◌+◌, ◌*◌, drop}
use Rattle.serde_json.specs.View.{items_view, view}
use Rattle.ar_value.specs.View.{shape_view}
use Rattle.ar_value.specs.declared.shape.Shape.{size-Shape}
use Rattle.ar_misfit.specs.Misfit.{items_misfit, misfit_as}
use Rattle.ar_misfit.proofs.Walked.{so_far}
use Rattle.ar_misfit.proofs.walk.+misfit_under.Given as goal

-- what was looked at fits
abbrev pub invariant-items_misfit-loop-index : goal.invariant-items_misfit-loop-index
invariant-items_misfit-loop-index l =
    items_misfit (λ d. misfit_as (shape_view l.item) (shape_view l.item) d) 0 (items_view l.items)
    ≡ items_misfit (λ d. misfit_as (shape_view l.item) (shape_view l.item) d) l.index (items_view (drop l.index l.items))

abbrev pub invariant-fields_misfit-loop-index : goal.invariant-fields_misfit-loop-index
invariant-fields_misfit-loop-index l = so_far l.names l.of (view l.json) l.index

-- eight times the depth that is left, and a rank
abbrev pub decreases-misfit_under : goal.decreases-misfit_under
decreases-misfit_under l = 8 * size-Shape l.shape.now

abbrev pub decreases-optional_misfit : goal.decreases-optional_misfit
decreases-optional_misfit l = 8 * size-Shape l.plain.now + 1

abbrev pub decreases-items_misfit : goal.decreases-items_misfit
decreases-items_misfit l = 8 * size-Shape l.item.now + 1

abbrev pub decreases-nth_misfit : goal.decreases-nth_misfit
decreases-nth_misfit l = 8 * goal.size-nth_misfit l + 1

abbrev pub decreases-list_misfit : goal.decreases-list_misfit
decreases-list_misfit l = 8 * size-Shape l.item.now + 2

abbrev pub decreases-fields_misfit : goal.decreases-fields_misfit
decreases-fields_misfit l = 8 * goal.size-fields_misfit l + 2

abbrev pub decreases-record_misfit : goal.decreases-record_misfit
decreases-record_misfit l = 8 * goal.size-record_misfit l + 3
