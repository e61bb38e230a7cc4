use Rattle.std.proofs.Common.{◌≡◌, ◌≤◌, ◌+◌, ◌*◌, drop, map}
use Rattle.serde_json.specs.Data.{no_members}
use Rattle.serde_json.specs.View.{members_view, view}
use Rattle.ar_value.specs.Value.{fields_from, items_of}
use Rattle.ar_value.specs.View.{value_view}
use Rattle.ar_machine.specs.Operand.{list_values}
use Rattle.ar_exact.specs.Exact.{fields_room, forms, items_room, with_fields}
use Rattle.ar_exact.proofs.Room.{before}
use Rattle.ar_exact.proofs.form.+form_within.Given as goal

abbrev pub decreases-fields_form : goal.decreases-fields_form
decreases-fields_form l = 5 * l.room + 2

abbrev pub decreases-record_form : goal.decreases-record_form
decreases-record_form l = 5 * l.room + 3

abbrev pub decreases-list_form : goal.decreases-list_form
decreases-list_form l = 5 * l.room + 2

abbrev pub decreases-field_form : goal.decreases-field_form
decreases-field_form l = 5 * l.room + 1

abbrev pub decreases-item_form : goal.decreases-item_form
decreases-item_form l = 5 * l.room

abbrev pub decreases-form_within : goal.decreases-form_within
decreases-form_within l = 5 * l.room + 4

-- the forms of the items so far come before the others, and what is left is for these
abbrev pub invariant-list_form-loop-index : goal.invariant-list_form-loop-index
invariant-list_form-loop-index l =
    (before (map view l.items.items) (forms (items_of (drop l.index (list_values l.list)))) ≡ forms (items_of (list_values l.list)))
    × (items_room (items_of (list_values l.list)) + l.left ≡ l.room + items_room (items_of (drop l.index (list_values l.list))))
    × (l.left ≤ l.room)

-- likewise
abbrev pub invariant-fields_form-loop-index : goal.invariant-fields_form-loop-index
invariant-fields_form-loop-index l =
    (with_fields (members_view l.members.entries) (fields_from l.index (drop l.index l.names) l.indices (map value_view l.given))
    ≡ with_fields no_members (fields_from 0 l.names l.indices (map value_view l.given)))
    × (fields_room (fields_from 0 l.names l.indices (map value_view l.given)) + l.left
    ≡ l.room + fields_room (fields_from l.index (drop l.index l.names) l.indices (map value_view l.given)))
    × (l.left ≤ l.room)
