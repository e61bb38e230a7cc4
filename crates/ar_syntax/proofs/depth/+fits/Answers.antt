use Rattle.std.proofs.Common.{rules, arith}
use Rattle.std.proofs.lemmas.Grind.{common_steps}
use Rattle.ar_syntax.proofs.Depths.{leaf_level, next_tree, no_level, no_tree_left, one_level, three_levels, two_levels}
use Rattle.ar_syntax.proofs.depth.+fits.Goals as goal

pub all_fit-returns-then-not-fits : goal.all_fit-returns-then-not-fits
all_fit-returns-then-not-fits t c = grind (arith, common_steps)

pub all_fit-loop-tree-preserved : goal.all_fit-loop-tree-preserved
all_fit-loop-tree-preserved t c = grind (arith, common_steps)

pub all_fit-returns : goal.all_fit-returns
all_fit-returns t c = search (rules, next_tree, no_tree_left)

pub fits-returns-then-levels-eq0 : goal.fits-returns-then-levels-eq0
fits-returns-then-levels-eq0 t c = search (rules, no_level, leaf_level, one_level, two_levels, three_levels)
