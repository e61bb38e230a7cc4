use Rattle.ar_syntax.proofs.Limits.{in_limits}
use Rattle.ar_syntax.proofs.Texts.{is_no_condition, says_tree}
use Rattle.ar_syntax.proofs.parser.parse.Goals as goal

pub returns : goal.returns
returns c = record {
  exact = c.tree.ensures.exact;
  too_long = c.tree.ensures.too_long;
  tree = says_tree c.args.text.now c.tree.result c.tree.ensures.exact;
  refused = is_no_condition c.args.text.now c.tree.result c.tree.ensures.exact;
  limits = in_limits c.args.text.now c.tree.result c.tree.ensures.exact;
}
