use Rattle.ar_workers.proofs.ordered.finish_ordered.Given as goal

-- the queue is of the bundle, for n workers
abbrev pub ghosts-ordered_named : goal.ghosts-ordered_named
ghosts-ordered_named g a = record { bundle = a.bundle.now; workers = a.workers }
