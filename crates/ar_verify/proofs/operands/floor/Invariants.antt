use Rattle.std.proofs.Common.{◌≡◌, take}
use Rattle.ar_safety.specs.Arrivals.{floor_height}
use Rattle.ar_verify.specs.Private.Held.{counted, from_innermost}
use Rattle.ar_verify.proofs.operands.floor.Given as goal

abbrev pub invariant-loop-around : goal.invariant-loop-around
invariant-loop-around g l = l.floor ≡ counted (floor_height (from_innermost (take l.around-index l.loops)))
