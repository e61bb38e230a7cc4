use Rattle.std.proofs.Common.{◌≡◌, map, take}
use Rattle.serde_json.specs.View.{view}
use Rattle.ar_words.specs.Names.{item_names}
use Rattle.ar_words.proofs.names.names_of.Given as goal

-- the names of the items so far
abbrev pub invariant-loop-item : goal.invariant-loop-item
invariant-loop-item l = l.names.items ≡ item_names (map (λ item. view item) (take l.item-index l.items))
