use Rattle.std.proofs.Common.{◌≡◌, rules, sym}
use Rattle.ar_tree.specs.Expression.{FieldAt}
use Rattle.ar_tree.specs.Views.{expression_of}
use Rattle.ar_tree.specs.declared.tree.Tree.{the_lemmas}
use Rattle.ar_tree.specs.declared.tree.Tree.TheVariants as trees
use Rattle.ar_syntax.specs.Private.Frames.{frames_of}
use Rattle.ar_syntax.specs.Roles.{follows}
use Rattle.ar_syntax.proofs.Openers.{text_gives_field}
use Rattle.ar_syntax.proofs.step.close_text.Goals as goal

pub returns-then-closes_bracket : goal.returns-then-closes_bracket
returns-then-closes_bracket c =
    let field : expression_of (trees.Field c.args.at c.args.owner c.args.literal.1) ≡ FieldAt c.args.at (expression_of c.args.owner.value) c.args.literal.1 = search (rules, the_lemmas) in
    text_gives_field (frames_of c.args.stack.now.items) c.args.at (expression_of c.args.owner.value) c.args.literal.0 c.args.literal.1 c.args.token.now (follows c.args.token.now) c.operand.result (sym c.if-closes_bracket.ensures) (rw field at c.operand.ensures)
