use Rattle.std.proofs.Common.{rules}
use Rattle.ar_code.proofs.Again.{one_image}
use Rattle.ar_code.proofs.laws.one_image.Goals as goal

pub returns : goal.returns
returns c = search (rules, one_image)
