use Rattle.std.proofs.Common.{map, take}
use Rattle.ar_document.specs.Opening.{metric_view}
use Rattle.ar_document.specs.Parts.{AreJudges}
use Rattle.ar_document.proofs.parts.judges_of.Given as goal

-- the judges so far
abbrev pub invariant-loop-number : goal.invariant-loop-number
invariant-loop-number l = AreJudges (map metric_view (take l.number l.metrics)) (take l.number l.bound) l.judges.items
