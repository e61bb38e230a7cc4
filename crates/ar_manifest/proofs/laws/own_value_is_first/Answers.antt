use Rattle.ar_manifest.proofs.Bindings.{referred_value-own}
use Rattle.ar_manifest.proofs.laws.own_value_is_first.Goals as goal

pub returns : goal.returns
returns c = referred_value-own
