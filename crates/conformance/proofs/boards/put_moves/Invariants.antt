use Rattle.std.specs.Prelude.{◌≡◌}
use denote.Text.{Utf8}
use denote.Shadow.{shadow}
use Rattle.conformance.proofs.boards.put_moves.Given as goal

-- the core is one of the bundle, and the separator is text
abbrev pub invariant-loop-step : goal.invariant-loop-step
invariant-loop-step l = (l.core.bundle ≡ l.fn.core.bundle) × shadow (Utf8 l.separator)
