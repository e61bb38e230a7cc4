use Rattle.ar_manifest.proofs.Bindings.{AreParts-parts_of, parts_of-AreParts}
use Rattle.ar_manifest.proofs.laws.one_cut.Goals as goal

pub returns : goal.returns
returns c = λ text parts. (parts_of-AreParts text parts, AreParts-parts_of text parts)
