use Rattle.std.proofs.Common.{◌≡◌, map, take}
use Rattle.ar_verify.specs.Private.Kinds.{parts_kind}
use Rattle.ar_verify.proofs.operands.copy_kinds.Given as goal

abbrev pub invariant-loop-kind : goal.invariant-loop-kind
invariant-loop-kind g l = map parts_kind l.copies.items ≡ map parts_kind (take l.kind-index l.kinds)
