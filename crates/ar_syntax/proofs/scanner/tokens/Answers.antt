use Rattle.ar_syntax.proofs.Cuts.{gap_between, in_order, spelled}
use Rattle.ar_syntax.proofs.scanner.tokens.Goals as goal

pub returns : goal.returns
returns c = record {
  exact = c.limited_tokens.ensures.exact;
  too_long = c.limited_tokens.ensures.too_long;
  in_order = in_order c.args.text.now c.limited_tokens.result c.limited_tokens.ensures.exact;
  spelled = spelled c.args.text.now c.limited_tokens.result c.limited_tokens.ensures.exact;
  gap_between = gap_between c.args.text.now c.limited_tokens.result c.limited_tokens.ensures.exact;
}
