use Rattle.ar_board.proofs.ReceiptLemmas.{met_has_no_cause, met_or_not}
use Rattle.ar_board.proofs.laws.receipts_are_met_or_not.Goals as goal

pub returns-clause-met_or_not : goal.returns-clause-met_or_not
returns-clause-met_or_not c = met_or_not

pub returns-clause-not_both : goal.returns-clause-not_both
returns-clause-not_both c = met_has_no_cause
