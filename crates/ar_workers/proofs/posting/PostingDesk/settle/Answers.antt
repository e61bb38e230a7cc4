use Rattle.std.proofs.Common.{rules}
use Rattle.ar_workers.proofs.Named.{named_by_receipt, named_by_double}
use Rattle.ar_workers.proofs.posting.PostingDesk.settle.Goals as goal

pub returns-in-Ok : goal.returns-in-Ok
returns-in-Ok g c = search (rules, named_by_receipt, named_by_double)

pub returns-in_ok-push-in-Err : goal.returns-in_ok-push-in-Err
returns-in_ok-push-in-Err g c = search (rules, named_by_receipt, named_by_double)
