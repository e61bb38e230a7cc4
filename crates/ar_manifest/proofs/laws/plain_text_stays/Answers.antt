use Rattle.ar_manifest.proofs.Bindings.{bound_text-plain}
use Rattle.ar_manifest.proofs.laws.plain_text_stays.Goals as goal

pub returns : goal.returns
returns c = bound_text-plain
