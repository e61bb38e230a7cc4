use Rattle.std.proofs.Common.{◌≡◌, map, drop}
use Rattle.ar_value.specs.Fits.{all_items, fits}
use Rattle.ar_value.specs.Value.{items_of}
use Rattle.ar_value.specs.View.{shape_view, value_view}
use Rattle.ar_value.proofs.FitLemmas.{Fit}
use Rattle.ar_value.proofs.fitting.+is_fit.Given as goal

-- what is left decides
abbrev pub invariant-are_all_fit-loop-item : goal.invariant-are_all_fit-loop-item
invariant-are_all_fit-loop-item l =
    all_items (λ value. fits value (shape_view l.shape)) (items_of (map value_view l.items))
    ≡ all_items (λ value. fits value (shape_view l.shape)) (items_of (map value_view (drop l.item-index l.items)))

abbrev pub invariant-are_fields_fit-loop-index : goal.invariant-are_fields_fit-loop-index
invariant-are_fields_fit-loop-index l =
    Fit 0 l.names l.indices l.values l.of l.shapes ≡ Fit l.index (drop l.index l.names) l.indices l.values (drop l.index l.of) (drop l.index l.shapes)
