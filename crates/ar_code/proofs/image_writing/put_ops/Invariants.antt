use Rattle.std.proofs.Common.{◌≡◌, ◌++◌, take}
use Rattle.std.specs.List.{AllByRecursion, flat_map}
use Rattle.ar_op.specs.Code.{InRange}
use Rattle.ar_code.specs.Image.{op_bytes}
use Rattle.ar_code.proofs.image_writing.put_ops.Given as goal

-- the operations so far are written, and their numbers are in range
abbrev pub invariant-loop-op : goal.invariant-loop-op
invariant-loop-op l = (l.out.items ≡ l.fn.out.items ++ flat_map op_bytes (take l.op-index l.ops)) × AllByRecursion InRange (take l.op-index l.ops)
