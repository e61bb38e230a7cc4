use Rattle.std.proofs.Common.{◌≡◌, drop, length, take}
use Rattle.ar_value.proofs.WidestLemmas.{Joined_before, Widest}
use Rattle.ar_value.proofs.widening.+widest.Given as goal

-- what was joined comes before what is left
abbrev pub invariant-widest_fields-loop-index : goal.invariant-widest_fields-loop-index
invariant-widest_fields-loop-index l = record {
  long : length l.shapes.items ≡ l.index;
  joined : Widest l.names l.left l.of l.right
      ≡ Joined_before (take l.index l.names) l.shapes.items (Widest (drop l.index l.names) (drop l.index l.left) (drop l.index l.of) (drop l.index l.right));
}
