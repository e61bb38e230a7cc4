use Rattle.std.proofs.Common.{◌≡◌, false, drop, map}
use Rattle.serde_json.specs.View.{items_view, members_view, view}
use Rattle.serde_json.specs.Written.{items_have_float, members_have_float}
use Rattle.ar_object.specs.Written.{Output}
use Rattle.ar_object.proofs.Texts.{EndsWith, Remains}
use Rattle.ar_object.proofs.written.JsonText.+put_json_value.Given as goal

-- the items that are left are still to be written
abbrev pub invariant-put_items-loop-item : goal.invariant-put_items-loop-item
invariant-put_items-loop-item l =
    (items_have_float (items_view (drop l.item-index l.items)) ≡ false)
    × Remains (map view (drop l.item-index l.items)) (map view l.items) l.initial.self.written l.self.written

-- who ends the object after these members has written it whole
abbrev pub invariant-put_members-loop-name : goal.invariant-put_members-loop-name
invariant-put_members-loop-name l =
    (members_have_float (members_view l.name-iterator) ≡ false)
    × ((end : Output) → EndsWith (members_view l.name-iterator) l.self.written end
    → EndsWith (members_view l.members.entries) l.initial.self.written end)
