use Rattle.ar_refusal.proofs.warned.push_warning.Goals as goal

pub returns : goal.returns
returns c = rw (← c.in_ok-line.ensures) c.write.ensures.bytes
