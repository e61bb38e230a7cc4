use Rattle.std.proofs.Common.{◌≡◌, rules}
use Rattle.ar_tree.specs.Expression.{FieldAt}
use Rattle.ar_tree.specs.Views.{expression_of}
use Rattle.ar_tree.specs.declared.tree.Tree.{the_lemmas}
use Rattle.ar_tree.specs.declared.tree.Tree.TheVariants as trees
use Rattle.ar_syntax.proofs.step.select.Goals as goal

pub returns-in-Some : goal.returns-in-Some
returns-in-Some c =
    let field : expression_of (trees.Field c.args.at c.args.owner c.in-Some.name) ≡ FieldAt c.args.at (expression_of c.args.owner.value) c.in-Some.name = search (rules, the_lemmas) in
    λ stack. rw (← c.in_ok-name.ensures, c.in-Some.is) (rw field at (c.operand.ensures stack))
