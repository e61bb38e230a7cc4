use Rattle.std.proofs.Common.{arith, rules, ap, ◌∙◌}
use Rattle.std.proofs.lemmas.Grind.{common_steps}
use Rattle.ar_tree.specs.declared.tree.Tree.{the_lemmas}
use Rattle.ar_syntax.specs.Roles.{arity}
use Rattle.ar_syntax.proofs.Openers.{one_argument, two_arguments}
use Rattle.ar_syntax.proofs.call.call.Goals as goal

pub returns-in-Len : goal.returns-in-Len
returns-in-Len c =
    rw (c.in-Len.is, one_argument c.args.arguments.items _ _ c.in_ok-last.ensures (c.requires ∙ ap arity c.in-Len.is)) (search (rules, the_lemmas))

pub returns-in-IsNil : goal.returns-in-IsNil
returns-in-IsNil c =
    rw (c.in-IsNil.is, one_argument c.args.arguments.items _ _ c.in_ok-last.ensures (c.requires ∙ ap arity c.in-IsNil.is)) (search (rules, the_lemmas))

pub returns-in-Default : goal.returns-in-Default
returns-in-Default c =
    rw (c.in-Default.is, two_arguments c.args.arguments.items _ _ _ _ c.in_ok-last.ensures c.in_ok-operand-in-Default.ensures (c.requires ∙ ap arity c.in-Default.is)) (search (rules, the_lemmas))

pub returns : goal.returns
returns c =
    rw (c.in-Over.is, two_arguments c.args.arguments.items _ _ _ _ c.in_ok-last.ensures c.in_ok-list-in-Over.ensures (c.requires ∙ ap arity c.in-Over.is)) (search (rules, the_lemmas))

pub pop_argument-requires-in-Default : goal.pop_argument-requires-in-Default
pop_argument-requires-in-Default c = grind (arith, common_steps)

pub pop_argument-requires-in-Over : goal.pop_argument-requires-in-Over
pop_argument-requires-in-Over c = grind (arith, common_steps)
