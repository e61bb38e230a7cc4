use Rattle.std.proofs.Common.{arith, sym, ◌∙◌, ◌-◌, length}
use Rattle.ar_syntax.proofs.Climbs.{pops, newest}
use Rattle.ar_syntax.proofs.climb.newest_ends.Goals as goal

pub returns-in-Some : goal.returns-in-Some
returns-in-Some c =
    c.ends.ensures ∙ sym (newest c.args.reach c.args.stack.now (length c.args.stack.now - 1) c.in-Some.frame.now (omega (arith, c.in-Some.ensures.item.3.0)) (sym c.in-Some.ensures.value))

pub returns-in-None : goal.returns-in-None
returns-in-None c = grind (arith, pops) steps 2000000
