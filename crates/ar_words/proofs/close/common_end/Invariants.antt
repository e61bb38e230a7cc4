use Rattle.std.proofs.Common.{◌≡◌, ◌+◌, ◌-◌, ◌≤◌, drop, length, reverse}
use Rattle.ar_words.specs.Close.{common_front}
use Rattle.ar_words.proofs.close.common_end.Given as goal

-- both end with the bytes so far, and with what is common before them
abbrev pub invariant-loop-count : goal.invariant-loop-count
invariant-loop-count l =
    ((l.count ≤ length l.one) × (l.count ≤ length l.other)) × (common_front (reverse l.one) (reverse l.other) ≡ l.count + common_front (drop l.count (reverse l.one)) (drop l.count (reverse l.other)))

abbrev pub decreases-loop-count : goal.decreases-loop-count
decreases-loop-count l = length l.one - l.count
