use Rattle.std.proofs.Common.{◌≡◌, ◌++◌}
use Rattle.serde_json.specs.View.{members_view}
use Rattle.ar_json.specs.Names.{member_names}
use Rattle.ar_json.proofs.shape_reading.texts_of.Given as goal

-- the names so far come before those that are left
abbrev pub invariant-loop-name : goal.invariant-loop-name
invariant-loop-name l = l.names.items ++ member_names (members_view l.name-iterator) ≡ member_names (members_view l.members.entries)
