use Rattle.std.proofs.Common.{rules}
use Rattle.ar_code.proofs.Joins.{whole_image}
use Rattle.ar_code.specs.Image.{image}
use Rattle.ar_code.proofs.image_writing.image_of.Goals as goal

pub returns-clause-image : goal.returns-clause-image
unfolding image
returns-clause-image c = search (rules, whole_image)
