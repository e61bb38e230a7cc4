use Rattle.ar_workers.proofs.Ending.{shown}
use Rattle.ar_workers.proofs.running.closed.Goals as goal

pub returns-in-Err-clause-cause : goal.returns-in-Err-clause-cause
returns-in-Err-clause-cause g c = shown _ _ _ _ c.requires.each_once c.in-Err.ensures.lost

pub returns-in-Ok-clause-finished : goal.returns-in-Ok-clause-finished
returns-in-Ok-clause-finished g c = record { lawful = c.in-Ok.ensures.closed.lawful; states = c.in-Ok.ensures.states }
