use Rattle.std.proofs.Common.{take, map}
use Rattle.ar_document.specs.Opening.{metric_view}
use Rattle.ar_document.specs.Private.Naming.{AreNumbers}
use Rattle.ar_document.specs.Private.Opened.{metric_names}
use Rattle.ar_document.proofs.opening.numbers_of.Given as goal

-- the names so far have their numbers
abbrev pub invariant-loop-number : goal.invariant-loop-number
invariant-loop-number l = AreNumbers (metric_names (map metric_view (take l.number l.metrics))) l.numbers
