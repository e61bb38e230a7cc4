use Rattle.std.proofs.Common.{◌≡◌, ◌++◌, drop, string_bytes}
use Rattle.ar_refusal.specs.Warned.{warning_lines}
use Rattle.ar_refusal.proofs.warned.lines_of.Given as goal

-- the lines so far come before those of the warnings that are left
abbrev pub invariant-loop-warning : goal.invariant-loop-warning
invariant-loop-warning l = string_bytes l.text ++ warning_lines (drop l.warning-index l.warnings) ≡ warning_lines l.warnings
