use Rattle.std.proofs.Common.{rules}
use Rattle.ar_document.proofs.OneAnswer.{bundle_or_fault}
use Rattle.ar_document.proofs.laws.bundle_or_fault.Goals as goal

pub returns : goal.returns
returns c = search (rules, bundle_or_fault)
