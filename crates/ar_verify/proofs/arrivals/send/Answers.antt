use Rattle.std.proofs.Common.{ap, ◌∙◌}
use Rattle.std.specs.Prelude.{slice_set}
use Rattle.ar_verify.specs.Private.Held.{operands_view}
use Rattle.ar_verify.specs.Private.Table.{one_more, table_view}
use Rattle.ar_verify.proofs.Table.{put_there}
use Rattle.ar_verify.proofs.arrivals.send.Goals as goal

pub returns : goal.returns
returns g c =
    put_there c.args.arrived.now c.args.sent.target c.take-so_far.new.arrived c.in_ok-arrived.field-0 c.take-so_far.ensures.left
    ∙ ap (slice_set (table_view c.args.arrived.now) c.args.sent.target) (c.in_ok-arrived.ensures ∙ ap (λ had. one_more had (operands_view c.args.sent.operands)) c.take-so_far.ensures.taken)
