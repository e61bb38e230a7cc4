use Rattle.std.proofs.Common.{◌∙◌, ap, sym}
use Rattle.ar_reason.proofs.Trees.{trees_at}
use Rattle.ar_evaluation.specs.Private.Trees.{judge_trees_view, trees_of}
use Rattle.std.specs.Prelude.{option_map}
use Rattle.ar_reason.proofs.data.write_evaluated.Goals as goal

pub write_judged-requires : goal.write_judged-requires
write_judged-requires c =
    ap (option_map judge_trees_view) c.trees_at.ensures
    ∙ (trees_at c.args.bundle.now c.args.run c.in-Measure.metric c.args.trees.now c.requires ∙ ap (option_map trees_of) (sym c.judge_at-judge.ensures))
