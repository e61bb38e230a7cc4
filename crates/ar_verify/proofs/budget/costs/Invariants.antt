use Rattle.std.proofs.Common.{◌≡◌, length}
use Rattle.ar_verify.specs.Private.Costs.{AreCosts}
use Rattle.ar_verify.proofs.budget.costs.Given as goal

-- the costs from this index on are found
abbrev pub invariant-loop-index : goal.invariant-loop-index
invariant-loop-index l = (length l.costs.items ≡ length l.ops) × AreCosts l.fn.code l.most l.index l.costs.items
