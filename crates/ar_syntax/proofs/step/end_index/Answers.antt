use Rattle.std.proofs.Common.{◌≡◌, rules}
use Rattle.ar_tree.specs.Expression.{IndexAt}
use Rattle.ar_tree.specs.Views.{expression_of}
use Rattle.ar_tree.specs.declared.tree.Tree.{the_lemmas}
use Rattle.ar_tree.specs.declared.tree.Tree.TheVariants as trees
use Rattle.ar_syntax.proofs.step.end_index.Goals as goal

pub returns-in-EndBracket : goal.returns-in-EndBracket
returns-in-EndBracket c =
    let index : expression_of (trees.Index c.args.at c.args.list c.args.tree) ≡ IndexAt c.args.at (expression_of c.args.list.value) (expression_of c.args.tree.value) = search (rules, the_lemmas) in
    λ stack. rw c.in-EndBracket.is (rw index at (c.operand.ensures stack))
