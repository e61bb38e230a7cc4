use Rattle.std.proofs.Common.{drop, map}
use Rattle.ar_safety.specs.Arrivals.{merged}
use Rattle.ar_verify.specs.Private.Kinds.{parts_kind}
use Rattle.ar_verify.proofs.Joins.{After}
use Rattle.ar_verify.proofs.operands.merge_all.Given as goal

-- what is left decides, after what has a kind in common so far
abbrev pub invariant-loop-index : goal.invariant-loop-index
invariant-loop-index g l = After (map parts_kind l.kinds.items) (drop l.index (map parts_kind l.lefts)) (drop l.index (map parts_kind l.rights)) (merged (map parts_kind l.lefts) (map parts_kind l.rights))
