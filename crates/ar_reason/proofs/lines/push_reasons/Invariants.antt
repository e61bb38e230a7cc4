use Rattle.std.proofs.Common.{◌≡◌, ◌++◌, drop, flat_map, map, string_bytes}
use Rattle.serde_json.specs.View.{view}
use Rattle.ar_reason.specs.Reason.{reason_of}
use Rattle.ar_reason.specs.ReasonText.{reason_text}
use Rattle.ar_reason.proofs.lines.push_reasons.Given as goal

-- the events so far come before those that are left
abbrev pub invariant-loop-step : goal.invariant-loop-step
invariant-loop-step l = string_bytes l.out ++ flat_map reason_text (map (reason_of (view l.document) l.bundle) (drop l.step-index l.steps)) ≡ string_bytes l.initial.out ++ flat_map reason_text (map (reason_of (view l.document) l.bundle) l.steps)
