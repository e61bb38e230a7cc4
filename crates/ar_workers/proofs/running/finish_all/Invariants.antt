use Rattle.ar_board.specs.Locks.{lock_names}
use Rattle.ar_workers.proofs.running.finish_all.Given as goal

-- the board is of the bundle, for n workers, and its ledgers are those of the blanks
abbrev pub ghosts-run_named-M-BundleName : goal.ghosts-run_named-M-BundleName
ghosts-run_named-M-BundleName g a = record { bundle = a.bundle.now; workers = a.workers }

abbrev pub ghosts-run_named-L-LockNames : goal.ghosts-run_named-L-LockNames
ghosts-run_named-L-LockNames g a = record { names = lock_names a.blanks; parts = a.workers }
