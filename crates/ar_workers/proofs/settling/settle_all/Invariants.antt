use Rattle.ar_workers.proofs.settling.settle_all.Given as goal

abbrev pub ghosts-settle_from : goal.ghosts-settle_from
ghosts-settle_from g a = record { table = a.queue.now.table.shared.table_id }
