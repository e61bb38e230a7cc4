use Rattle.ar_manifest.proofs.Causes.{bad_limit_found, no_value_found, unknown_found}
use Rattle.ar_manifest.proofs.laws.refusals_are_found.Goals as goal

pub returns : goal.returns
returns c = record { unknown = unknown_found; no_value = no_value_found; bad_limit = bad_limit_found }
