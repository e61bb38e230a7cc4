use Rattle.ar_apart.proofs.Differences.{length_is}
use Rattle.ar_apart.proofs.apart.character_length.Goals as goal

pub returns-clause-exact : goal.returns-clause-exact
returns-clause-exact c =
    let of = c.ceil_char_boundary.ensures in
    length_is c.args.text.now c.ceil_char_boundary.result of.bound of.boundary of.nearest of.beyond
