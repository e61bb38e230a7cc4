use Rattle.ar_syntax.proofs.call.have_argument.Goals as goal

pub returns-in-Ends-EndGroup : goal.returns-in-Ends-EndGroup
returns-in-Ends-EndGroup c = λ stack. rw (← c.follow_of.ensures, c.in-Ends-EndGroup.is, c.in-Ends-EndGroup.field-0-is) (c.end_call.ensures stack)

pub returns-in-Ends-Comma : goal.returns-in-Ends-Comma
returns-in-Ends-Comma c = λ stack. rw (← c.follow_of.ensures, c.in-Ends-Comma.is, c.in-Ends-Comma.field-0-is) (c.next_argument.ensures stack).0
