use Rattle.std.proofs.Common.{◌≡◌}
use Rattle.std.specs.Hash.DefaultHasher.{initial}
use Rattle.serde_json.specs.View.{members_view}
use Rattle.ar_document.specs.Private.Naming.{fed_members}
use Rattle.ar_document.proofs.runs.names_hasher.Given as goal

-- the names so far were fed: with those that are left they make the state after all
abbrev pub invariant-loop-name : goal.invariant-loop-name
invariant-loop-name l = fed_members l.hasher (members_view l.name-iterator) ≡ fed_members initial (members_view l.members.entries)
