use Rattle.ar_command.proofs.Reporting.{breaks, in_order_says, posted_says}
use Rattle.ar_command.proofs.answer.reported.Goals as goal

pub returns-in-Run-clause-said : goal.returns-in-Run-clause-said
returns-in-Run-clause-said g c = λ input reads. posted_says _ _ _ input c.args.bundle.now reads c.in-Run.is c.posted.result c.posted.ensures.said

pub returns-in-Run-clause-ends : goal.returns-in-Run-clause-ends
returns-in-Run-clause-ends g c = λ input reads. breaks _ _ input c.args.bundle.now reads c.in-Run.is c.posted.result c.posted.ensures.ends

pub returns-in-Ordered-clause-said : goal.returns-in-Ordered-clause-said
returns-in-Ordered-clause-said g c = λ input reads. in_order_says _ _ _ input c.args.bundle.now reads c.in-Ordered.is c.put_in_order.result c.put_in_order.ensures.said

pub returns-in-Ordered-clause-ends : goal.returns-in-Ordered-clause-ends
returns-in-Ordered-clause-ends g c = λ input reads. breaks _ _ input c.args.bundle.now reads c.in-Ordered.is c.put_in_order.result c.put_in_order.ensures.ends
