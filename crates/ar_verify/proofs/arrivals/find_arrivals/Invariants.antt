use Rattle.ar_verify.proofs.arrivals.find_arrivals.Given as goal

abbrev pub ghosts-find_named : goal.ghosts-find_named
ghosts-find_named a = record { shape = a.shape.now }
