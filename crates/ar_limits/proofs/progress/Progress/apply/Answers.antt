-- Each way out is one of the steps.
use Rattle.std.proofs.Common.{◌∙◌, sym}
use Rattle.ar_limits.proofs.KeptLemmas.{takes_when_closed, takes_stop}
use Rattle.ar_limits.proofs.progress.Progress.apply.Goals as goal

pub returns-then-is_complete : goal.returns-then-is_complete
returns-then-is_complete c =
    takes_when_closed c.args.self.now.metrics.items c.args.self.now.phase c.args.self.now.incomplete c.args.event (sym c.is_complete.ensures ∙ c.if-is_complete.true) c.requires.consistent

pub returns-in-Stop : goal.returns-in-Stop
returns-in-Stop c =
    rw (c.in-Stop.is, c.close.ensures.metrics, c.close.ensures.incomplete, c.close.ensures.phase, c.close.ensures.closed)
    (takes_stop c.args.self.now.metrics.items c.args.self.now.phase c.args.self.now.incomplete (sym c.is_complete.ensures ∙ c.if-is_complete.false) c.requires.consistent)
