use Rattle.std.proofs.Common.{◌≡◌, ◌++◌, drop, flat_map, string_bytes}
use Rattle.serde_json.specs.View.{view}
use Rattle.ar_reason.specs.Reason.{reasons_from, reasons_of}
use Rattle.ar_reason.specs.ReasonText.{run_reasons_text}
use Rattle.ar_reason.proofs.lines.reasons_text.Given as goal

-- the runs so far come before those that are left
abbrev pub invariant-loop-number : goal.invariant-loop-number
invariant-loop-number l = string_bytes l.out ++ flat_map run_reasons_text (reasons_from (view l.document) l.bundle l.chosen l.number (drop l.number l.bundle.runs) (drop l.number l.histories)) ≡ flat_map run_reasons_text (reasons_of (view l.document) l.bundle l.chosen l.histories)
