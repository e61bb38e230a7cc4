use Rattle.std.proofs.Common.{◌≡◌, ◌++◌, drop, map}
use Rattle.serde_json.specs.View.{view}
use Rattle.ar_diagnostic.specs.DiagnosticData.{warning_data}
use Rattle.ar_diagnostic.proofs.data.warnings_of.Given as goal

-- the warnings so far come before those that are left
abbrev pub invariant-loop-warning : goal.invariant-loop-warning
invariant-loop-warning l = map view l.found.items ++ map warning_data (drop l.warning-index l.warnings) ≡ map warning_data l.warnings
