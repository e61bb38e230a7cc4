use Rattle.std.proofs.Common.{◌≡◌, true, ◌+◌, ◌-◌, ◌*◌, ◌++◌, drop, map, string_bytes}
use Rattle.ar_value.specs.Value.{fields_from, items_of}
use Rattle.ar_value.specs.View.{value_view}
use Rattle.ar_machine.specs.Operand.{list_values}
use Rattle.ar_show.specs.Values.{shown_fields, shown_items}
use Rattle.ar_show.proofs.values.+push_within.Given as goal

abbrev pub decreases-push_fields : goal.decreases-push_fields
decreases-push_fields l = 5 * l.levels + 4

abbrev pub decreases-push_field : goal.decreases-push_field
decreases-push_field l = 5 * l.levels + 3

abbrev pub decreases-push_found : goal.decreases-push_found
decreases-push_found l = 5 * l.levels + 2

abbrev pub decreases-push_items : goal.decreases-push_items
decreases-push_items l = 5 * l.levels + 2

abbrev pub decreases-push_within : goal.decreases-push_within
decreases-push_within l = 5 * l.levels + 1

abbrev pub decreases-push_list : goal.decreases-push_list
decreases-push_list l = 5 * l.levels

abbrev pub decreases-push_record : goal.decreases-push_record
decreases-push_record l = 5 * l.levels

-- the items so far come before those that are left
abbrev pub invariant-push_items-loop-index : goal.invariant-push_items-loop-index
invariant-push_items-loop-index l =
    string_bytes l.out ++ shown_items l.levels (3 - l.index) l.first (items_of (drop l.index (list_values l.list)))
    ≡ string_bytes l.initial.out ++ shown_items l.levels 3 true (items_of (list_values l.list))

-- likewise
abbrev pub invariant-push_fields-loop-index : goal.invariant-push_fields-loop-index
invariant-push_fields-loop-index l =
    string_bytes l.out ++ shown_fields l.levels (8 - l.index) l.first (fields_from l.index (drop l.index l.names) l.indices (map value_view l.given))
    ≡ string_bytes l.initial.out ++ shown_fields l.levels 8 true (fields_from 0 l.names l.indices (map value_view l.given))
