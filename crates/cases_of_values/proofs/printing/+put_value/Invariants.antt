use Rattle.std.proofs.Common.{◌≡◌, ◌++◌, drop, map, string_bytes, true}
use Rattle.ar_value.specs.Value.{fields_from, items_of}
use Rattle.ar_value.specs.View.{value_view}
use Rattle.cases_of_values.specs.Printing.{fields_text, items_text}
use Rattle.cases_of_values.proofs.printing.+put_value.Given as goal

-- the items so far come before those that are left
abbrev pub invariant-put_items-loop-item : goal.invariant-put_items-loop-item
invariant-put_items-loop-item l = l.out.is_whole ≡ true → (l.initial.out.is_whole ≡ true) × (string_bytes l.out.text ++ items_text l.first (items_of (map value_view (drop l.item-index l.items))) ≡ string_bytes l.initial.out.text ++ items_text true (items_of (map value_view l.items)))

-- likewise
abbrev pub invariant-put_fields-loop-position : goal.invariant-put_fields-loop-position
invariant-put_fields-loop-position l =
    l.out.is_whole ≡ true → (l.initial.out.is_whole ≡ true)
    × (string_bytes l.out.text ++ fields_text l.first (fields_from l.position (drop l.position l.names) l.indices (map value_view l.given)) ≡ string_bytes l.initial.out.text ++ fields_text true (fields_from 0 l.names l.indices (map value_view l.given)))
