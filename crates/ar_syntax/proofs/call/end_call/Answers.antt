use Rattle.std.proofs.Common.{arith, rules, ◌∙◌}
use Rattle.ar_tree.specs.Views.{expression_of}
use Rattle.ar_syntax.proofs.Openers.{not_all_arguments, all_arguments, call_gives_operand}
use Rattle.ar_syntax.proofs.call.end_call.Goals as goal

pub returns-in_ok-call : goal.returns-in_ok-call
returns-in_ok-call c =
    λ stack. rw (← c.in_ok-call.ensures)
    (call_gives_operand c.args.function c.args.arguments.items _ stack (expression_of c.in_ok-call.field-0) c.operand.result (search rules) (c.if-len-arity.true ∙ c.arity.ensures) c.operand.ensures)

pub returns-else-len-arity : goal.returns-else-len-arity
returns-else-len-arity c = grind (arith, all_arguments, not_all_arguments) steps 2000000
