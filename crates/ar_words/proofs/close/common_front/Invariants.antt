use Rattle.std.proofs.Common.{◌≡◌, ◌+◌, ◌-◌, ◌≤◌, drop, length}
use Rattle.std.specs.Prelude.{nat_eq}
use Rattle.std.specs.List.{common_prefix_len}
use Rattle.ar_words.proofs.close.common_front.Given as goal

-- both begin with the bytes so far, and with what is common past them
abbrev pub invariant-loop-count : goal.invariant-loop-count
invariant-loop-count l =
    ((l.count ≤ length l.one) × (l.count ≤ length l.other)) × (common_prefix_len nat_eq l.one l.other ≡ l.count + common_prefix_len nat_eq (drop l.count l.one) (drop l.count l.other))

abbrev pub decreases-loop-count : goal.decreases-loop-count
decreases-loop-count l = length l.one - l.count
