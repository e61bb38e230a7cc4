use Rattle.std.proofs.Common.{◌≡◌, ◌++◌, drop, flat_map, map, string_bytes}
use Rattle.ar_explain.specs.Views.{line_view}
use Rattle.ar_evaluation.specs.EvaluatedText.{part_line}
use Rattle.ar_evaluation.proofs.lines.push_lines.Given as goal

-- the lines so far come before those that are left
abbrev pub invariant-loop-line : goal.invariant-loop-line
invariant-loop-line l = string_bytes l.out ++ flat_map part_line (map line_view (drop l.line-index l.lines)) ≡ string_bytes l.initial.out ++ flat_map part_line (map line_view l.lines)
