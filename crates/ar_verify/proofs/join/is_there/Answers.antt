use Rattle.ar_verify.specs.Private.Parts.{part_view}
use Rattle.ar_verify.proofs.join.is_there.Goals as goal

pub returns-else-are_one : goal.returns-else-are_one
returns-else-are_one g c = λ is. c.is_among.ensures is (part_view c.args.first.now)
