use Rattle.std.proofs.Common.{arith}
use Rattle.ar_verify.proofs.Ways.{named_past}
use Rattle.ar_verify.proofs.path.number_among.Goals as goal

pub returns-else-number-shapes : goal.returns-else-number-shapes
returns-else-number-shapes c =
    named_past c.args.name.now c.args.names.now c.args.shapes.now c.in_ok-number.number c.in_ok-number.ensures (omega (arith, c.if-number-shapes.false))
