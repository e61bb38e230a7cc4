use Rattle.std.proofs.Common.{rules, ◌∙◌}
use Rattle.ar_verify.specs.Private.Stacks.{from_top}
use Rattle.ar_verify.proofs.Tops.{scalar_refused, scalar_taken}
use Rattle.ar_verify.proofs.effect.make_list.Goals as goal

pub loop-taken-preserved : goal.loop-taken-preserved
loop-taken-preserved g c =
    c.loop-taken.invariant
    ∙ scalar_taken c.args.scalar c.args.count c.loop-taken._taken (from_top c.loop-taken.kinds.items) (from_top c.takes_scalar.new.kinds.items) c.takes_scalar.result c.loop-taken-test.true c.takes_scalar.ensures
    c.if-not-takes_scalar.false

pub returns-then-not-takes_scalar : goal.returns-then-not-takes_scalar
returns-then-not-takes_scalar g c = search (rules, scalar_refused)
