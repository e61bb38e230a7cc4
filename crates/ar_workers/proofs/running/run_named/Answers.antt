use Rattle.std.proofs.Common.{rules}
use Rattle.ar_workers.proofs.Ending.{all_fresh, is_cause}
use Rattle.ar_workers.proofs.running.run_named.Goals as goal

pub posted_by-requires-clause-fresh : goal.posted_by-requires-clause-fresh
posted_by-requires-clause-fresh g c κs within = all_fresh _ _ c.in_ok-board.ensures.seats

pub returns-in_err-seats-clause-cause : goal.returns-in_err-seats-clause-cause
returns-in_err-seats-clause-cause g c = search (rules, is_cause)
