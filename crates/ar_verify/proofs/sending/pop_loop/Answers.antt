use Rattle.std.proofs.Common.{rules}
use Rattle.ar_verify.proofs.Tops.{on_top}
use Rattle.ar_verify.proofs.sending.pop_loop.Goals as goal

pub returns : goal.returns
returns g c = search (rules, on_top)
