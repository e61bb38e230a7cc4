-- How an argument begins, by whether it is a predicate and whether a brace comes first.
use Rattle.std.proofs.Common.{Bool}
use Rattle.std.specs.Prelude.{if◌then◌else◌}
use Rattle.ar_syntax.specs.Machine.{ArgumentStart, BarePredicate, BracedPredicate, PlainArgument}

abbrev pub start_by : (body brace : Bool) → ArgumentStart
start_by body brace = if body then (if brace then BracedPredicate else BarePredicate) else PlainArgument
