use Rattle.std.proofs.Common.{◌≡◌, ◌≤◌, ◌++◌, drop}
use Rattle.ar_verify.specs.Private.Depths.{depths}
use Rattle.ar_verify.proofs.loops.depths.Given as goal

-- the numbers so far come before those of the operations that are left
abbrev pub invariant-loop-op : goal.invariant-loop-op
invariant-loop-op l = (l.depth ≤ l.op-index) × (l.around.items ++ depths l.depth (drop l.op-index l.ops) ≡ depths 0 l.ops)
