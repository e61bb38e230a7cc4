use Rattle.std.proofs.Common.{◌≡◌, ◌++◌, drop, map}
use Rattle.ar_evaluation.specs.Private.Trees.{trees_of, judge_trees_view}
use Rattle.ar_evaluation.proofs.trees.trees_of.Given as goal

-- the trees so far come before those of the judges that are left
abbrev pub invariant-loop-judge : goal.invariant-loop-judge
invariant-loop-judge l = map judge_trees_view l.trees.items ++ map trees_of (drop l.judge-index l.judges) ≡ map trees_of l.judges
