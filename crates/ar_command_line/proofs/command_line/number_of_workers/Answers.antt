use Rattle.std.proofs.Common.{arith, sym}
use Rattle.ar_value.specs.Limits.{most_workers}
use Rattle.ar_command_line.proofs.Parsing.{no_number, number_read}
use Rattle.ar_command_line.proofs.command_line.number_of_workers.Goals as goal

pub returns-in_default : goal.returns-in_default
returns-in_default c = sym (no_number 1 most_workers c.args.text.now c.in_default.field-0 c.in_default.ensures.value.0)

pub returns-then-number-le-MOST_WORKERS : goal.returns-then-number-le-MOST_WORKERS
returns-then-number-le-MOST_WORKERS c =
    let least = c.if-number-ge1.true in
    let most = c.if-number-le-MOST_WORKERS.true in
    sym (number_read 1 most_workers c.args.text.now c.in-Ok.number c.in-Ok.ensures.value.0 (omega (arith, least)) (omega (arith, most)))
