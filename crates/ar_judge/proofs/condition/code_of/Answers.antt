use Rattle.std.proofs.Common.{rules}
use Rattle.ar_tree.specs.Views.{expression_of}
use Rattle.ar_judge.proofs.Running.{has_code, has_no_code, in_limits}
use Rattle.ar_judge.proofs.condition.code_of.Goals as goal

pub compile-code-requires : goal.compile-code-requires
compile-code-requires c = in_limits _ (expression_of c.in_ok-parse.field-0) _ c.in_ok-parse.ensures.limits c.in_ok-tree.ensures.exact

pub returns-in_err-code : goal.returns-in_err-code
returns-in_err-code c = search (rules, has_no_code)

pub returns : goal.returns
returns c =
    has_code _ _ (expression_of c.in_ok-parse.field-0) _ _ c.in_ok-parse.ensures.exact c.in_ok-tree.ensures.exact c.in_ok-code.ensures.too_many c.in_ok-code.ensures.exact
    (λ value fit. c.in_ok-code.ensures.means _ (expression_of c.in_ok-parse.field-0) value c.in_ok-tree.ensures.exact fit)
