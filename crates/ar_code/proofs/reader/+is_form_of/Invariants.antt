use Rattle.ar_code.proofs.reader.+is_form_of.Given as goal

abbrev pub decreases-is_form_of : goal.decreases-is_form_of
decreases-is_form_of l = l.more
