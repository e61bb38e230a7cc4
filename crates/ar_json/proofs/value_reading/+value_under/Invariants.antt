use Rattle.std.proofs.Common.{◌≡◌, map, drop}
use Rattle.serde_json.specs.View.{items_view, members_view}
use Rattle.ar_json.specs.Reading.{items_read, read}
use Rattle.ar_value.specs.View.{shape_view, value_view}
use Rattle.ar_json.proofs.ReadLemmas.{Items_before}
use Rattle.ar_json.proofs.ReadSteps.{Members_read}
use Rattle.ar_json.proofs.value_reading.+value_under.Given as goal

-- what was read comes before what is left
abbrev pub invariant-items_under-loop-json : goal.invariant-items_under-loop-json
invariant-items_under-loop-json l =
    items_read (λ d. read (shape_view l.item) d) (items_view l.json)
    ≡ Items_before (map value_view l.items.items) (items_read (λ d. read (shape_view l.item) d) (items_view (drop l.json-index l.json)))

abbrev pub invariant-fields_under-loop-name : goal.invariant-fields_under-loop-name
invariant-fields_under-loop-name l =
    Members_read l.names l.shapes (members_view l.members.entries) l.required l.name-iterator l.from l.next l.present.indices l.present.values.items
