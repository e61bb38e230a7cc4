use Rattle.ar_queue.proofs.Feeding.{is_done}
use Rattle.ar_workers.proofs.Ending.{are_each_once}
use Rattle.ar_workers.proofs.settling.settle_from.Goals as goal

pub learn-requires-clause-done : goal.learn-requires-clause-done
learn-requires-clause-done g c = is_done _ _ c.requires.some c.in_ok-pass.ensures.gathered.joined

pub returns-clause-each_once : goal.returns-clause-each_once
returns-clause-each_once g c = are_each_once _ _ _ _ c.learn.ensures.same c.learn.ensures.all c.in_ok-pass.ensures.gathered.named
