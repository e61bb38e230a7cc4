use Rattle.ar_syntax.proofs.step.end_argument.Goals as goal

pub returns-in-EndGroup-clause-plain : goal.returns-in-EndGroup-clause-plain
returns-in-EndGroup-clause-plain c = λ stack. rw (c.in-EndGroup.is, ← c.in_ok-arguments.ensures) (c.end_call.ensures stack)

pub returns-in-EndGroup-clause-body : goal.returns-in-EndGroup-clause-body
returns-in-EndGroup-clause-body c = λ stack. rw (c.in-EndGroup.is, ← c.in_ok-arguments.ensures) (c.end_call.ensures stack)

pub returns-in-Comma-clause-plain : goal.returns-in-Comma-clause-plain
returns-in-Comma-clause-plain c = λ stack. rw (c.in-Comma.is, ← c.in_ok-arguments.ensures) (c.next_argument.ensures stack).0

pub returns-in-Comma-clause-body : goal.returns-in-Comma-clause-body
returns-in-Comma-clause-body c = λ stack. rw (c.in-Comma.is, ← c.in_ok-arguments.ensures) (c.next_argument.ensures stack).0
