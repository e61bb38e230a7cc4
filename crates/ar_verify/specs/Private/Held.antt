-- What operands and loops in memory represent.
use Rattle.std.specs.Prelude.{ℕ, ◌-◌, ◌^◌, min, List, map, reverse, Result, Ok, Err}
use Rattle.ar_safety.specs.Arrivals.{Around, Operands, operands}
use Rattle.ar_verify.specs.Private.Kinds.{list_view}
use Rattle.ar_verify.specs.Private.Stacks.{from_top}
use Rattle.ar_safety.specs.declared.error.Reason.{Reason}
use Rattle.ar_verify.specs.declared.operands.Around as code
use Rattle.ar_verify.specs.declared.operands.Operands as held
use Rattle.ar_verify.specs.declared.whole.ShapeName as ShapeName

abbrev pub around_view : {M : Type 0} {name : ShapeName.Ghosts M} → code.Around M name → Around
around_view a = record { item = (list_view a.list).0; most = (list_view a.list).1; below = from_top a.below.items }

-- loops of which the last is the innermost, from the innermost
abbrev pub from_innermost : {M : Type 0} {name : ShapeName.Ghosts M} → List (code.Around M name) → List Around
from_innermost loops = reverse (map around_view loops)

abbrev pub operands_view : {M : Type 0} {name : ShapeName.Ghosts M} → held.Operands M name → Operands
operands_view o = operands (from_top o.kinds.items) (from_innermost o.loops.items)

-- what arrived somewhere, or why nothing can be performed there
abbrev pub arrival_view : {M : Type 0} {name : ShapeName.Ghosts M} → Result (held.Operands M name) Reason
    → Result Operands Reason
arrival_view (Ok had) = Ok (operands_view had)
arrival_view (Err reason) = Err reason

-- a number as it is counted, which stops at the greatest one
abbrev pub counted : ℕ → ℕ
counted n = min n (2 ^ 64 - 1)
