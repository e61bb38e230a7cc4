use Rattle.std.proofs.Common.{arith, rules}
use Rattle.ar_explain.specs.Views.{line_view}
use Rattle.ar_object.proofs.Texts.{all_remain}
use Rattle.ar_evaluation.proofs.Lists.{next_object, no_object_left}
use Rattle.ar_evaluation.specs.EvaluatedData.{part_data}
use Rattle.ar_evaluation.proofs.data.write_parts.Goals as goal

pub loop-line-init : goal.loop-line-init
loop-line-init c = all_remain _ _

pub loop-line-preserved : goal.loop-line-preserved
loop-line-preserved c = search (rules, next_object line_view part_data)

pub returns : goal.returns
returns c =
    let l = c.loop-line in
    no_object_left line_view part_data c.args.lines.now l.line-index _ _ _ (omega arith) l.invariant
