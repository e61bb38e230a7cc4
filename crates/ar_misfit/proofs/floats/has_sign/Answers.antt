use Rattle.std.proofs.Common.{◌≡◌, true, is_nan, rules}
use Rattle.ar_misfit.proofs.Signs.{without_sign}
use Rattle.ar_misfit.proofs.floats.has_sign.Goals as goal

pub returns-else-not-is_nan : goal.returns-else-not-is_nan
returns-else-not-is_nan c =
    let is : is_nan c.args.float ≡ true = search rules in
    search (rules, without_sign c.args.float is)
