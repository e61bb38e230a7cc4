use Rattle.std.proofs.Common.{◌≡◌, ◌∙◌, length, ap, arith}
use Rattle.std.proofs.lemmas.List.{with_items_is}
use Rattle.ar_value.specs.View.{shape_view}
use Rattle.ar_verify.specs.Private.Held.{operands_view}
use Rattle.ar_verify.specs.Private.Sending.{sends_view}
use Rattle.ar_verify.specs.Private.Table.{pass_view, table_view}
use Rattle.ar_verify.proofs.Table.{all_added}
use Rattle.ar_verify.proofs.Targets.{sends_within}
use Rattle.ar_verify.proofs.arrivals.Pass.add.Goals as goal

pub send_all-requires : goal.send_all-requires
send_all-requires g c =
    let long : length c.deref_mut.result.now ≡ length c.args.self.now.arrived.items = omega arith in
    rw long (sends_within (length c.args.self.now.arrived.items) c.args.code.now (shape_view g.M.ShapeName.shape) c.args.next c.requires.inside c.args.op
    (operands_view c.args.had) (sends_view c.in_ok-sends.sends) c.requires.targets c.in_ok-sends.ensures.exact)

pub returns : goal.returns
returns g c =
    let long : length c.send_all.new.arrived ≡ c.args.self.now.arrived.len = omega arith in
    all_added c.args.code.now (shape_view g.M.ShapeName.shape) c.args.next c.args.op (pass_view c.args.self.now) (operands_view c.args.had) (sends_view c.in_ok-sends.sends) (table_view c.deref_mut.result.now) _
    c.deepest.result c.max-self.result c.in_ok-sends.ensures.exact (ap table_view c.deref_mut.ensures.value)
    (ap table_view (with_items_is c.args.self.now.arrived c.send_all.new.arrived long) ∙ c.in_ok-send_all.ensures) c.deepest.ensures
    c.in_ok-sends.ensures.shallow c.max-self.ensures
