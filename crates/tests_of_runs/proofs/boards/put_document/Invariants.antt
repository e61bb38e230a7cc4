use Rattle.ar_board.specs.Locks.{lock_names}
use Rattle.tests_of_runs.proofs.boards.put_document.Given as goal

-- the board is of the bundle, for n workers, and its ledgers are those of the blanks
abbrev pub ghosts-put_board-M-BundleName : goal.ghosts-put_board-M-BundleName
ghosts-put_board-M-BundleName g a = record { bundle = a.bundle.now; workers = a.workers }

abbrev pub ghosts-put_board-L-LockNames : goal.ghosts-put_board-L-LockNames
ghosts-put_board-L-LockNames g a = record { names = lock_names a.blanks; parts = a.workers }
