use Rattle.std.proofs.Common.{◌≡◌, drop}
use Rattle.ar_json.specs.Reading.{read}
use Rattle.ar_value.specs.View.{shape_view}
use Rattle.ar_measured.proofs.Measures.{Read_before, Read_of}
use Rattle.ar_measured.proofs.values.+value_under.Given as goal

-- what is read of all items is what was read, before what is read of those that are left
abbrev pub invariant-items_under-loop-json : goal.invariant-items_under-loop-json
invariant-items_under-loop-json l =
    Read_of (λ d. read (shape_view l.item) d) l.json ≡ Read_before l.items.items (Read_of (λ d. read (shape_view l.item) d) (drop l.json-index l.json))
