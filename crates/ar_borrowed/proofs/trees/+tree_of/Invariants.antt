use Rattle.std.proofs.Common.{◌≡◌, drop}
use Rattle.json.specs.Value.{items_view as borrowed_items, members_view as borrowed_members}
use Rattle.serde_json.specs.Data.{no_members}
use Rattle.serde_json.specs.Read.{of_items, of_members}
use Rattle.serde_json.specs.View.{members_view}
use Rattle.ar_borrowed.proofs.Making.{Items_made}
use Rattle.ar_borrowed.proofs.trees.+tree_of.Given as goal

-- the items so far, before what is made of those that are left, are all items
abbrev pub invariant-items_of-loop-item : goal.invariant-items_of-loop-item
invariant-items_of-loop-item l = of_items (borrowed_items l.borrowed) ≡ Items_made l.items.items (of_items (borrowed_items (drop l.item-index l.borrowed)))

-- the members that are left, put after those so far, make all members
abbrev pub invariant-members_of-loop-member : goal.invariant-members_of-loop-member
invariant-members_of-loop-member l =
    of_members (borrowed_members l.borrowed) no_members ≡ of_members (borrowed_members (drop l.member-index l.borrowed)) (members_view l.members.entries)
