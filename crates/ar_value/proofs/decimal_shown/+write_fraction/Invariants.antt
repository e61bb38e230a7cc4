use Rattle.ar_value.proofs.decimal_shown.+write_fraction.Given as goal

abbrev pub decreases-write_fraction : goal.decreases-write_fraction
decreases-write_fraction g l = l.most
