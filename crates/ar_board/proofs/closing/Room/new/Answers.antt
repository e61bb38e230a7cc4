use Rattle.std.proofs.Common.{rules}
use Rattle.ar_bundle.proofs.Finishing.{as_many}
use Rattle.ar_board.proofs.closing.Room.new.Goals as goal

pub returns : goal.returns
returns c =
    let many = as_many c.args.bundle.now 0 0 c.args.bundle.now.runs c.in_ok-open.field-0.states.items c.in_ok-open.field-0.histories.items c.in_ok-open.ensures in
    record {
      one = c.requires;
      histories = many.1;
      states = many.0;
      no_receipts = search rules;
      receipt_room = search rules;
      none_unmet = search rules;
      none_stored = search rules;
    }
