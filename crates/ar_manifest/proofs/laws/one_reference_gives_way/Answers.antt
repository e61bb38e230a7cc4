use Rattle.ar_manifest.proofs.Bindings.{bound_text-reference}
use Rattle.ar_manifest.proofs.laws.one_reference_gives_way.Goals as goal

pub returns : goal.returns
returns c = bound_text-reference
