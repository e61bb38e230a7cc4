use Rattle.std.proofs.Common.{drop, map}
use Rattle.ar_object.proofs.Texts.{Remains}
use Rattle.ar_object.specs.Object.{count_data}
use Rattle.ar_evaluation.proofs.data.put_items.Given as goal

-- the items that are left are still to be written
abbrev pub invariant-loop-item : goal.invariant-loop-item
invariant-loop-item l = Remains (map count_data (drop l.item-index l.items)) (map count_data l.items) l.initial.json.written l.json.written
