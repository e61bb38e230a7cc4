use Rattle.ar_apart.proofs.Differences.{start_is}
use Rattle.ar_apart.proofs.apart.character_start.Goals as goal

pub returns-clause-exact : goal.returns-clause-exact
returns-clause-exact c =
    let of = c.floor_char_boundary.ensures in
    start_is c.args.text.now c.args.index c.floor_char_boundary.result of.bound of.boundary of.nearest
