use Rattle.std.proofs.Common.{◌≡◌, map, rules}
use Rattle.ar_tree.specs.Expression.{ListAt, expressions}
use Rattle.ar_tree.specs.Views.{expression_of}
use Rattle.ar_tree.specs.declared.tree.Tree.{the_lemmas}
use Rattle.ar_tree.specs.declared.tree.Tree.TheVariants as trees
use Rattle.ar_syntax.specs.Private.Frames.{frames_of}
use Rattle.ar_syntax.proofs.step.end_item.Goals as goal

pub returns-in-EndBracket : goal.returns-in-EndBracket
returns-in-EndBracket c =
    let list : expression_of (trees.List c.args.at (record { items = c.in_ok-items.items })) ≡ ListAt c.args.at (expressions (map expression_of c.in_ok-items.items.items)) = search (rules, the_lemmas) in
    rw (c.in-EndBracket.is, ← c.in_ok-items.ensures) (rw list at (c.operand.ensures (frames_of c.args.stack.now.items)))
