use Rattle.std.proofs.Common.{rules}
use Rattle.ar_document.proofs.OneAnswer.{same_fault}
use Rattle.ar_document.proofs.laws.same_fault.Goals as goal

pub returns : goal.returns
returns c = search (rules, same_fault)
