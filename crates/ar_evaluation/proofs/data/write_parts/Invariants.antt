use Rattle.std.proofs.Common.{drop, map}
use Rattle.ar_object.proofs.Texts.{Remains}
use Rattle.ar_explain.specs.Views.{line_view}
use Rattle.ar_evaluation.specs.EvaluatedData.{part_data}
use Rattle.ar_evaluation.proofs.data.write_parts.Given as goal

-- the parts of the lines that are left are still to be written
abbrev pub invariant-loop-line : goal.invariant-loop-line
invariant-loop-line l = Remains (map part_data (map line_view (drop l.line-index l.lines))) (map part_data (map line_view l.lines)) l.initial.json.written l.json.written
