use Rattle.std.proofs.Common.{string_bytes}
use Rattle.ar_quote.specs.Shown.{unit_escape}
use Rattle.ar_quote.proofs.Appended.{if_ok, two}
use Rattle.ar_quote.proofs.shown.push_pair.Goals as goal

pub returns : goal.returns
returns c =
    if_ok c.push_unit-2.result
    (two (string_bytes c.args.out.now) (string_bytes c.push_unit.new.out) (string_bytes c.push_unit-2.new.out) (unit_escape c.args.high) (unit_escape c.args.low) c.in_ok-push_unit.ensures)
    c.push_unit-2.ensures
