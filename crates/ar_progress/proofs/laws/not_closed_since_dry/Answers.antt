use Rattle.ar_progress.proofs.Closers.{not_closed_since_dry}
use Rattle.ar_progress.proofs.laws.not_closed_since_dry.Goals as goal

pub returns : goal.returns
returns c = not_closed_since_dry
